-- At rest it is the value table.
use Rattle.dob_world.proofs.Common.{IfOk, ap, subst, ℕ, Family, classes_of, values_given, AreValuesBelow, setting_of, state_of, value_in}
use Rattle.dob_distance.proofs.Parity.{IfOk-both}
use Rattle.dob_world.proofs.Promise.{end_is_silent, rest_is_right}
use Rattle.dob_world.proofs.world.World.gather.Goals as goal
use Rattle.dob_world.proofs.world.World.gather.Goals.{After-from_fn}

-- the values given are those that the nodes show
shown : (c : After-from_fn) → IfOk c.from_fn.result (λ table. AreValuesBelow (value_in c.args.self.now.node_count (state_of c.args.self.now).world.nodes)
    (classes_of c.args.self.now.classes.family) table.values)
shown c =
    let value = value_in c.args.self.now.node_count (state_of c.args.self.now).world.nodes in
    IfOk-both c.from_fn.result _ _ _ (λ table given same.
    subst (λ (count : ℕ). AreValuesBelow value count table.values) (ap (λ (family : Family). classes_of family) c.in_ok-classes.ensures.family)
    (values_given _ value (classes_of c.in_ok-classes.classes.family) table.values given (λ class v low has. has.0)))
    c.from_fn.ensures.given c.from_fn.ensures.family

pub returns-clause-values : goal.returns-clause-values
returns-clause-values c = shown c

pub returns-clause-right : goal.returns-clause-right
returns-clause-right c = λ rest.
    let k = setting_of c.args.self.now in
    let standing = c.requires.standing in
    IfOk-both c.from_fn.result _ _ _ (λ table values same.
    rest_is_right k (state_of c.args.self.now).world standing.openings.0 table.values standing.setting.nodes.0
    standing.openings.1 standing.lawful standing.linked rest values.whole values.each) (shown c) c.from_fn.ensures.family

pub returns-clause-announced : goal.returns-clause-announced
returns-clause-announced c = λ ended.
    returns-clause-right c (end_is_silent (setting_of c.args.self.now) (state_of c.args.self.now) c.requires.standing.matches ended).rest
