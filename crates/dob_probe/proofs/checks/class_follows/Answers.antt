-- A class's entry follows where it is the value that follows for its representative, and breaks where it isn't.
use Rattle.dob_probe.proofs.Common.{◌<◌, ◌≡◌, ◌↔◌, ◌∙◌, rules, subst, sym, true, true≢false, ℕ, HasEntry, class_setup, classes_of}
use Rattle.dob_rank.proofs.OfFamilies.Present.{HasClasses-classes_of}
use Rattle.dob_value.proofs.Rows.{class_setup_is}
use Rattle.dob_probe.proofs.Following.{class_follows, class_breaks}
use Rattle.dob_probe.proofs.checks.class_follows.Goals as goal
use Rattle.dob_probe.proofs.checks.class_follows.Goals.{After-eq}

-- the class's representative and its entry
entry_is : (c : After-eq) → HasEntry c.args.table.now c.args.class (class_setup c.args.table.now.family c.args.class) c.value.result
entry_is c =
    let family = c.args.table.now.family in
    let count : c.args.class < classes_of family = subst (λ (n : ℕ). c.args.class < n) (sym c.classes-classes.ensures.count) c.requires in
    let is = class_setup_is family c.args.class (classes_of family) (HasClasses-classes_of family) count in
    record { represents = is.0; number = is.1; entry = c.value.ensures }

-- the answer is whether it is that value
compared : (c : After-eq) → (c.eq.result ≡ true) ↔ (c.value_that_follows.result ≡ c.value.result)
compared c = search rules

pub returns-clause-follows : goal.returns-clause-follows
returns-clause-follows c = λ yes.
    class_follows c.args.table.now c.args.class (class_setup c.args.table.now.family c.args.class) c.value.result (entry_is c)
    c.value_that_follows.result c.value_that_follows.ensures ((compared c).0 yes)

pub returns-clause-breaks : goal.returns-clause-breaks
returns-clause-breaks c = λ no.
    class_breaks c.args.table.now c.args.class (class_setup c.args.table.now.family c.args.class) c.value.result (entry_is c)
    c.value_that_follows.result c.value_that_follows.ensures (λ same. true≢false (sym ((compared c).1 same) ∙ no))
