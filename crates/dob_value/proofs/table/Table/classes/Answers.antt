-- The classes are as many as the values.
use Rattle.dob_value.proofs.Common.{◌≡◌, length, subst, HasClasses-classes_of, IsRepresentative, classes_of, values_of_codes, ClassTable}
use Rattle.dob_value.proofs.ClassNumbers.{one_count}
use Rattle.dob_value.proofs.table.Table.classes.Goals as goal

pub returns-clause-count : goal.returns-clause-count
returns-clause-count c =
    let inside = c.self.inside in
    let family = inside.classes.family in
    subst (λ (t : ClassTable). classes_of t.family ≡ length t.values) c.self.view_is
    (one_count (IsRepresentative family) (classes_of family) (length (values_of_codes inside.codes)) (HasClasses-classes_of family)
    c.self.invariant.classes)
