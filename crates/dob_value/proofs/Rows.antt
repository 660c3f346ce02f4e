-- Tables in the order of the row of classes.
use Rattle.dob_value.proofs.Common.{◌<◌, ◌∙◌, ◌≡◌, List, Some, get_or, length, subst, sym, ℕ, length-map, get_or_from_slice_get, slice_get-get_or}
use Rattle.dob_value.proofs.Common.{slice_get_within, All, Family, Setup, HasClasses-classes_of, HasClasses, IsPositionOf, IsRepresentative, classes_of}
use Rattle.dob_value.proofs.Common.{value_of_code, values_of_codes, ClassStandsFor, SameOutlook, AreGiven, IsEntry, IsValueTable, AreValues, HasValue, Value, Draw}
use Rattle.std.specs.Prelude.{slice_get}
use Rattle.dob_rank.specs.Order.{RepresentativeOf}
use Rattle.dob_rank.specs.Families.{HasClass, IsInClass, class_setup}
use Rattle.dob_classes.proofs.OfFamilies.Counted.{one_count}
pub use Rattle.dob_rank.proofs.Marked.Representatives.{IsPlaceOf, place_found}
pub use Rattle.dob_classes.proofs.OfFamilies.FamilyRepresentatives.{class_setup_is, class_setup_only}
use Rattle.dob_distance.proofs.Outlooks.{value_same}
use Rattle.dob_value.proofs.ClassNumbers.{representative_is, representative_outlook, has_entry}

-- a position has the outlook of what stands at its class number
pub class_outlook : (family : Family) (p representative : Setup) (class classes : ℕ) → HasClasses family classes → class < classes → IsPositionOf family p →
    RepresentativeOf p representative → HasClass family representative class → SameOutlook family.profile p (class_setup family class)
class_outlook family p representative class classes all below is represents number =
    subst (SameOutlook family.profile p) (class_setup_only family representative class classes all below (representative_is family p representative is represents) number)
    (representative_outlook family p representative is represents)

-- so its class stands for it
pub class_stands : (family : Family) (p : Setup) (class : ℕ) → class < classes_of family → IsInClass family p class → ClassStandsFor family class p
class_stands family p class below is =
    (below, class_outlook family p is.representative class (classes_of family) (HasClasses-classes_of family) below is.position is.stands is.before)

-- ---- tables in the order of the row

-- each class has a code where each has an entry
pub class_has_code : (family : Family) (codes : List ℕ) (class : ℕ) → HasClasses family (length (values_of_codes codes)) →
    class < classes_of family → class < length codes
class_has_code family codes class all below =
    subst (λ n. class < n)
    (one_count (IsRepresentative family) (classes_of family) (length (values_of_codes codes)) (HasClasses-classes_of family) all
    ∙ length-map codes value_of_code) below

-- a list with the value of what stands at each place is the value table
pub swept_is_table : (family : Family) (values : List Value) → AreValues family values → All IsEntry values →
    IsValueTable family values
swept_is_table family values are entries =
    let classes : HasClasses family (length values) = subst (HasClasses family) (sym are.same_length) (HasClasses-classes_of family) in
    record {
      table = record { classes = classes; entries = entries };
      known = λ p is. has_entry family values p classes is;
      values_are = λ p v is has.
          let within : has.class < length values = slice_get_within values has.class v has.entry in
          let here : HasValue family.profile (class_setup family has.class) v =
          subst (HasValue family.profile (class_setup family has.class)) (get_or_from_slice_get values has.class v Draw has.entry)
          (are.fits has.class (subst (λ n. has.class < n) are.same_length within)) in
          value_same family.profile (class_setup family has.class) p v
          (class_outlook family p has.number.representative has.class (length values) classes within is has.number.stands has.number.before)
          here;
    }

-- and so is one that was given what stands there
pub given_is_table : (family : Family) (values given : List Value) → AreValues family values → All IsEntry values →
    AreGiven (λ class value. slice_get values class ≡ Some value) (classes_of family) given → IsValueTable family given
given_is_table family values given are entries is = swept_is_table family given
    (record {
      same_length = is.whole;
      fits = λ class low. subst (HasValue family.profile (class_setup family class)) (same class Draw (subst (λ n. class < n) (sym is.whole) low)) (are.fits class low);
    })
    (λ k d low. subst IsEntry (same k d low) (entries k d (slice_get_within values k (get_or given k d) (there k d low))))
  where
    there : (k : ℕ) (d : Value) → k < length given → slice_get values k ≡ Some (get_or given k d)
    there k d low = is.each k (get_or given k d) (slice_get-get_or given k d low)

    same : (k : ℕ) (d : Value) → k < length given → get_or values k d ≡ get_or given k d
    same k d low = get_or_from_slice_get values k (get_or given k d) d (there k d low)
