-- What stands at the class's number is its representative.
use Rattle.dob_value.proofs.Common.{subst, sym, Setup, HasClasses-classes_of, classes_of}
use Rattle.dob_rank.specs.Families.{RepresentsClass}
use Rattle.dob_value.proofs.Rows.{class_setup_is}
use Rattle.dob_value.specs.ClassRows.{class_setup}
use Rattle.dob_value.proofs.outcomes.representative_of.Goals as goal

pub new-requires : goal.new-requires
new-requires c =
    let family = c.args.classes.now.family in
    let is = class_setup_is family c.args.class (classes_of family) (HasClasses-classes_of family) c.requires in
    (class_setup family c.args.class, is.0.0.of_set.legal, c.board_at.ensures)

pub returns : goal.returns
returns c =
    let family = c.args.classes.now.family in
    let is = class_setup_is family c.args.class (classes_of family) (HasClasses-classes_of family) c.requires in
    let same = c.new.ensures (class_setup family c.args.class) is.0.0.of_set.legal c.board_at.ensures in
    record { setup = same; represents = subst (λ (s : Setup). RepresentsClass family s c.args.class) (sym same) is }
