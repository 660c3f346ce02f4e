-- Places in the order of a walk, and their classes.
use Rattle.dob_probe.proofs.Common.{◌<◌, ◌∙◌, ◌≡◌, ◌≤◌, None, Option, Some, ap, arith, refl, sym, ℕ, IsAfter, IsOrder, begin_at, class_on, place_in, places_in}
use Rattle.dob_probe.proofs.Common.{◌+◌, ◌^◌, Family, classes_of}
use Rattle.std.specs.Prelude.{if◌then◌else◌, nat_lt}
use Rattle.dob_classes.proofs.OfFamilies.Counted.{one_count}
use Rattle.dob_rank.proofs.OfFamilies.ClassBounds.{classes_of-below}
use Rattle.dob_rank.proofs.OfFamilies.Present.{HasClasses-classes_of}
use Rattle.dob_rank.specs.Families.{HasClasses, IsRepresentative}
use Rattle.dob_shuffle.proofs.Turning.{number_at-place_of, place_again, place_of-below}
use Rattle.dob_shuffle.specs.declared.shuffle.Shuffle.{Shuffle}
use Rattle.std.proofs.lemmas.Bool.Decides.{nat_tests}

module _ (classes : ℕ) where
  -- an order has a place for each class
  pub order_covers : (seed : Option ℕ) (order : Option Shuffle) → IsOrder seed classes order → classes ≤ places_in order classes
  order_covers None None is = omega arith
  order_covers (Some seed) (Some shuffle) is = omega (arith, is.greater)
  order_covers None (Some shuffle) is = absurd is
  order_covers (Some seed) None is = absurd is

  pub place_below : (order : Option Shuffle) (class : ℕ) → classes ≤ places_in order classes → class < classes → place_in order class < places_in order classes
  place_below None class all within = within
  place_below (Some shuffle) class all within = place_of-below shuffle class (omega (arith, all, within))

  pub place_class : (order : Option Shuffle) (place : ℕ) → place < places_in order classes → place_in order (class_on order place) ≡ place
  place_class None place within = refl
  place_class (Some shuffle) place within = place_again shuffle place within

  pub class_only : (order : Option Shuffle) (place class : ℕ) → classes ≤ places_in order classes → class < classes → place_in order class ≡ place
      → class ≡ class_on order place
  class_only None place class all within at = at
  class_only (Some shuffle) place class all within at =
      sym (number_at-place_of shuffle class (omega (arith, all, within))) ∙ ap (class_on (Some shuffle)) at

-- the first place is one behind that of the class that is named, where there is such a class
begins : (other classes first place end : ℕ) → other < classes → first < place → (if nat_lt other classes then first + 1 else end) ≤ place
begins other classes first place end named behind = grind (arith, nat_tests)

begun : (other classes first place end : ℕ) → place < end → (if nat_lt other classes then first + 1 else end) ≤ place → (other < classes) × (first < place)
begun other classes first place end within from = grind (arith, nat_tests)

module _ (order : Option Shuffle) (classes : ℕ) where
  pub after_begin : (behind : Option ℕ) (class : ℕ) → IsAfter behind order classes class → begin_at behind order classes ≤ place_in order class
  after_begin None class is = omega arith
  after_begin (Some other) class is = begins other classes (place_in order other) (place_in order class) (places_in order classes) is.0 is.1

  pub begin_after : (behind : Option ℕ) (class : ℕ) → place_in order class < places_in order classes → begin_at behind order classes ≤ place_in order class
      → IsAfter behind order classes class
  begin_after None class within from = tt
  begin_after (Some other) class within from = begun other classes (place_in order other) (place_in order class) (places_in order classes) within from

-- a family has fewer classes than a shuffle takes
pub few_classes : (family : Family) (classes : ℕ) → HasClasses family classes → classes < 2 ^ 63
few_classes family classes is =
    omega (arith, one_count (IsRepresentative family) classes (classes_of family) is (HasClasses-classes_of family), classes_of-below family)
