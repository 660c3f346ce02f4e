-- A table has a value for each class.
use Rattle.dob_value.proofs.Common.{◌∙◌, ap, length, IsRepresentative, values_of_codes, ClassTable}
use Rattle.dob_value.proofs.ClassNumbers.{one_count}
use Rattle.dob_value.proofs.table.Table.class_count.Goals as goal

pub returns-clause-length : goal.returns-clause-length
returns-clause-length c =
    one_count (IsRepresentative c.self.inside.classes.family) c.class_count.result (length (values_of_codes c.self.inside.codes))
    c.class_count.ensures.count c.self.invariant.classes
    ∙ ap (λ (t : ClassTable). length t.values) c.self.view_is
