-- The classes of a family have one number each.
use Rattle.dob_unmove.proofs.Common.{None, Option, Some, ℕ, MatchOption, Family, Setup, IsPositionOf, IsFirstOfTwo, IsNumbering}
use Rattle.dob_rank.specs.Families.{HasClass, RepresentsClass}
use Rattle.dob_classes.proofs.OfFamilies.FamilyRepresentatives.{one_of_either, one_number, one_representative}

pub IsNumbering-classes : (family : Family) → IsNumbering (RepresentsClass family)
IsNumbering-classes family = record {
  legal = λ p class h. h.0.0.of_set.legal;
  one_number = λ p q a b hp hq either. one_number family p q a b hp.1 hq.1 (one_of_either family p q hp.0 hq.0 either);
  one_represents = λ p q class hp hq. one_representative family p q class hp hq;
}

-- a position of the family is a representative where it is the earlier of its two
pub first_of_two : (family : Family) (s : Setup) (o : Option ℕ) → IsPositionOf family s
    → MatchOption o (¬ IsFirstOfTwo s) (λ (class : ℕ). IsFirstOfTwo s × HasClass family s class)
    → MatchOption o (¬ ((class : ℕ) × RepresentsClass family s class)) (RepresentsClass family s)
first_of_two family s None p later = λ first. later first.1.0.1
first_of_two family s (Some class) p first = ((p, first.0), first.1)
