-- The family is that of the classes.
use Rattle.std.proofs.Common.{refl}
use Rattle.dob_certificate.proofs.lookup.ByClassLookup.plies_for.Goals as goal

pub entry_for-requires : goal.entry_for-requires
entry_for-requires c = rw c.requires.stands c.requires.member

pub returns-in-Some : goal.returns-in-Some
returns-in-Some c = record {
  entry = c.in-Some.entry;
  is = rw c.requires.stands at c.in-Some.ensures.some;
  plies_are = refl;
  alone = rw c.requires.stands at c.in-Some.ensures.alone;
}

pub returns-in-None : goal.returns-in-None
returns-in-None c = rw c.requires.stands at c.in-None.ensures.none
