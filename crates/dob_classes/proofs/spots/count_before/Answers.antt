-- In profile A each place is one of the family's.
use Rattle.dob_classes.proofs.Common.{◌∙◌, ap, sym, Profile, family_of, marks_below, is_there}
use Rattle.dob_classes.proofs.Counting.RunNumbers.{all_there}
use Rattle.dob_classes.proofs.spots.count_before.Goals as goal

pub returns-in-A : goal.returns-in-A
returns-in-A c = sym (all_there c.args.family c.args.block c.args.run c.args.place c.in-A.is)

pub returns-in-B : goal.returns-in-B
returns-in-B c =
    c.count_in_b.ensures
    ∙ ap (λ (p : Profile). marks_below (is_there (family_of c.args.family.set p) c.args.block c.args.run) c.args.place) (sym c.in-B.is)
