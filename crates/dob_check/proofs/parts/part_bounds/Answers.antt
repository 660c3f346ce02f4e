-- A part begins at a class, or behind the last one, and ends where the next one begins, or with the classes.
use Rattle.dob_check.proofs.Common.{arith, refl}
use Rattle.dob_check.proofs.parts.part_bounds.Goals as goal

pub overflow_mul-first : goal.overflow_mul-first
overflow_mul-first c = omega (arith, c.requires.begins, c.class_count-count.ensures.length, c.class_count-count.type_inv)

pub returns : goal.returns
returns c =
    let begins = c.requires.begins in record {
      first = refl;
      end = omega (arith, c.min-size.ensures, c.class_count-count.ensures.length);
      order = omega arith;
      within = omega (arith, begins, c.min-size.ensures, c.class_count-count.ensures.length);
    }
