-- The pair is that of the representative with its turn, where the turn's class isn't lower and both are worth less than nothing.
use Rattle.dob_zugzwang.proofs.Common.{◌∙◌, ◌≤◌, arith, refl, subst, sym, true≢false, turned, Family, IsInClass, IsPositionOf, IsWorse}
use Rattle.dob_moves.specs.Shown.{setup_on}
use Rattle.dob_zugzwang.proofs.Pairing.{in_turn, no_better, no_lower, pair_found}
use Rattle.dob_zugzwang.proofs.Turned.{turn_is_position}
use Rattle.dob_zugzwang.proofs.pairs.pair_with.Goals as goal
use Rattle.dob_zugzwang.proofs.pairs.pair_with.Goals.{After-class_of-turn_class}

pub class_of-turn_class-requires : goal.class_of-turn_class-requires
class_of-turn_class-requires c =
    let turn = c.requires.turn in
    let is = turn_is_position c.args.table.now.family turn.representative turn.represents.0.0 turn.opens.0 in
    subst (λ (f : Family). IsPositionOf f (setup_on c.args.turn.now.board)) (sym c.classes.ensures.family)
    (subst (IsPositionOf c.args.table.now.family) (sym turn.same) is)

in_it : (c : After-class_of-turn_class) → IsInClass c.args.table.now.family (turned c.requires.turn.representative) c.class_of-turn_class.result
in_it c = in_turn c.args.table.now.family c.classes.result.now.family c.requires.turn.representative (setup_on c.args.turn.now.board) c.class_of-turn_class.result
    c.classes.ensures.family c.requires.turn.same c.class_of-turn_class.ensures.class

pub returns-then-turn_class-class : goal.returns-then-turn_class-class
returns-then-turn_class-class c = λ pair same.
    let turn = c.requires.turn in
    no_lower c.args.table.now c.args.class pair same turn.representative turn.represents c.class_of-turn_class.result
    (in_it (goal.at.returns-then-turn_class-class c).After-class_of-turn_class) c.if-turn_class-class.true

pub returns-then-not-is_worse : goal.returns-then-not-is_worse
returns-then-not-is_worse c = λ pair same.
    let turn = c.requires.turn in
    let better : ¬ IsWorse c.args.value c.value-turn_value.result = λ worse. true≢false (sym (c.is_worse.ensures.1 worse) ∙ c.if-not-is_worse.true) in
    no_better c.args.table.now c.args.class pair same turn.representative turn.represents c.class_of-turn_class.result
    (in_it (goal.at.returns-then-not-is_worse c).After-class_of-turn_class) c.args.value c.value-turn_value.result c.requires.value
    c.value-turn_value.ensures better

pub returns : goal.returns
returns c =
    let turn = c.requires.turn in
    let ordered : c.args.class ≤ c.class_of-turn_class.result = omega (arith, c.if-turn_class-class.false) in (
      refl,
      (
        turn.representative,
        pair_found c.args.table.now turn.representative c.args.class c.class_of-turn_class.result c.args.value c.value-turn_value.result
            turn.represents turn.opens (in_it (goal.at.returns c).After-class_of-turn_class) c.requires.value c.value-turn_value.ensures ordered
            (c.is_worse.ensures.0 c.if-not-is_worse.false),
      ),
    )
