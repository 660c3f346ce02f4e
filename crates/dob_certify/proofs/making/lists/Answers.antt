-- Its board shows the position.
use Rattle.dob_certify.proofs.making.lists.Goals as goal

pub number_of-class-requires : goal.number_of-class-requires
number_of-class-requires g c = rw (c.of.ensures, c.classes.ensures.family) c.requires
