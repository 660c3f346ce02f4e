-- The class's representative stands at its number.
use Rattle.dob_certificate.proofs.Common.{arith, refl}
use Rattle.dob_certificate.proofs.lookup.ByClassLookup.entry_at.Goals as goal

pub returns-then-class-class_count : goal.returns-then-class-class_count
returns-then-class-class_count c = rw (← c.as_slice.ensures.entries, ← c.requires.stands) (record {
  within = omega (arith, c.class_count.ensures.number, c.if-class-class_count.true);
  represents = c.representative_of-position.ensures.represents.0;
  setup = c.representative_of-position.ensures.setup;
  plies_are = refl;
})

pub returns-else-class-class_count : goal.returns-else-class-class_count
returns-else-class-class_count c =
    rw (← c.as_slice.ensures.entries, ← c.requires.stands) (omega (arith, c.class_count.ensures.number, c.if-class-class_count.false))
