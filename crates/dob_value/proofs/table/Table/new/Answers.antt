-- A table has a value for each class.
use Rattle.dob_value.proofs.Common.{◌∙◌, subst, sym, length-map, HasClasses-classes_of, HasClasses, value_of_code}
use Rattle.dob_distance.proofs.Parity.{entries_of_codes}
use Rattle.dob_value.proofs.table.Table.new.Goals as goal

pub invariant_of-result : goal.invariant_of-result
invariant_of-result c = record {
  classes = subst (HasClasses c.args.classes.family) (sym (length-map c.args.codes value_of_code ∙ c.requires.whole))
      (HasClasses-classes_of c.args.classes.family);
  entries = entries_of_codes c.args.codes c.requires.codes;
}
