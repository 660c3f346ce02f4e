-- Class numbers of a family are the marks below a rank: a position is in the class of its class number, and classes and their numbers answer each other.
use Rattle.dob_classes.proofs.Common.{◌<◌, ◌∙◌, ◌≡◌, ◌≤◌, ◌⊎◌, Bool, ap, arith, false, inl, inr, min, refl, rules, subst, suc, sym, true, ℕ, both_ways}
use Rattle.dob_classes.proofs.Common.{IsAllowed-mirrored, mirrored-mirrored, mirrored, Family, Setup, marks_below-upto, marks_below_more, HasClass-marked}
use Rattle.dob_classes.proofs.Common.{represents, IsPositionOfSet-mirrored, rank_of_set-same, HasClass, IsInClass, IsPositionOf, IsRepresentative, class_number}
use Rattle.dob_classes.proofs.Common.{classes_of, is_marked, marks_below, one_if, rank_of_set, size_of_set, IsFirstOfTwo, RepresentativeOf, classes_to_setup}
use Rattle.dob_rank.proofs.Positions.Numbering.{rank_of_set-below}
use Rattle.dob_rank.proofs.OfFamilies.Present.{marked}
use Rattle.dob_rank.proofs.Marked.Representatives.{has_representative_of_set, rank_of_first}

-- ---- marks below a place rise with the place
pub marks_below-rises : (mark : ℕ → Bool) (m n : ℕ) → mark m ≡ true → m < n → marks_below mark m < marks_below mark n
marks_below-rises mark m n on h =
    omega (arith, marks_below_more mark m, let one : one_if (mark m) ≡ 1 = ap one_if on in one, marks_below-upto mark (suc m) n (omega arith))

pub marks_below-same : (mark : ℕ → Bool) (m n : ℕ) → mark m ≡ true → mark n ≡ true → marks_below mark m ≡ marks_below mark n → m ≡ n
marks_below-same mark m n p q e = grind (arith, marks_below-rises mark m n p, marks_below-rises mark n m q)

-- so a place is told by the marks below it
pub upto_by_marks : (mark : ℕ → Bool) (m n : ℕ) → mark n ≡ true → marks_below mark m ≤ marks_below mark n → m ≤ n
upto_by_marks mark m n on le = grind (arith, marks_below-rises mark n m on)

pub below_by_marks : (mark : ℕ → Bool) (m n : ℕ) → marks_below mark m < marks_below mark n → m < n
below_by_marks mark m n lt = grind (arith, marks_below-upto mark n m)

-- ---- a position and its mirror image
pub IsPositionOf-mirrored : (family : Family) (s : Setup) → IsPositionOf family s → IsPositionOf family (mirrored s)
IsPositionOf-mirrored family s p = search (rules, IsPositionOfSet-mirrored, IsAllowed-mirrored)

pub class_number-is : (family : Family) (s : Setup)
    → class_number family s ≡ marks_below (is_marked family) (min (rank_of_set family.set s) (rank_of_set family.set (mirrored s)))
unfolding class_number
class_number-is family s = refl

-- the mirror image is in the same class
pub class_number-mirrored : (family : Family) (s : Setup) → IsPositionOf family s → class_number family (mirrored s) ≡ class_number family s
class_number-mirrored family s p = grind (arith, mirrored-mirrored, class_number-is)

-- a representative's class number is the number of marks below its rank
pub class_number-representative : (family : Family) (s : Setup) → IsPositionOf family s → IsFirstOfTwo s → class_number family s ≡ classes_to_setup family s
class_number-representative family s p first = grind (arith, class_number-is, rank_of_first)

-- the earlier one of both
pub record IsEarlierIn (family : Family) (s representative : Setup) : Type 0 where
  pub stands : RepresentativeOf s representative
  pub position : IsPositionOf family representative
  pub number_is : class_number family s ≡ classes_to_setup family representative

pub earlier_is : (family : Family) (s representative : Setup) → IsPositionOf family s → RepresentativeOf s representative
    → IsEarlierIn family s representative
earlier_is family s representative p stands = elim stands.0 [
  | inl same ↦ record {
    stands = stands;
    position = rw same p;
    number_is = rw same (class_number-representative family s p (rw same at stands.1));
  }
  | inr image ↦
      let at = IsPositionOf-mirrored family s p in
      record {
        stands = stands;
        position = rw image at;
        number_is = rw image (sym (class_number-mirrored family s p) ∙ class_number-representative family (mirrored s) at (rw image at stands.1));
      }
]

pub earlier_in : (family : Family) (s : Setup) → IsPositionOf family s → (representative : Setup) × IsEarlierIn family s representative
earlier_in family s p = (let r = has_representative_of_set family.set s p.of_set in (r.0, earlier_is family s r.0 p r.1))

-- ---- the class of a position
pub IsInClass-class_number : (family : Family) (s : Setup) → IsPositionOf family s → IsInClass family s (class_number family s)
IsInClass-class_number family s p =
    let e = earlier_in family s p in
    record { position = p; representative = e.0; stands = e.1.stands; before = rw e.1.number_is (HasClass-marked family e.0 e.1.position) }

pub class_number-below : (family : Family) (s : Setup) → IsPositionOf family s → class_number family s < classes_of family
unfolding classes_of
class_number-below family s p =
    let e = earlier_in family s p in
    rw e.1.number_is
    (marks_below-rises (is_marked family) (rank_of_set family.set e.0) (size_of_set family.set) (marked family e.0 (e.1.position, e.1.stands.1))
    (rank_of_set-below family.set e.0 e.1.position.of_set))

-- what is said of the class number of a position, by whatever it was found
pub number_told : (family : Family) (s : Setup) (class : ℕ) → IsPositionOf family s → class ≡ class_number family s
    → IsInClass family s class × (class < classes_of family)
number_told family s class p is = rw is (IsInClass-class_number family s p, class_number-below family s p)

-- one number: one position, or a position and its mirror image
pub class_once : (family : Family) (s t : Setup) → IsPositionOf family s → IsPositionOf family t → class_number family s ≡ class_number family t
    → (s ≡ t) ⊎ (s ≡ mirrored t)
class_once family s t p q e =
    let a = earlier_in family s p in
    let b = earlier_in family t q in
    let ranks : rank_of_set family.set a.0 ≡ rank_of_set family.set b.0
    = marks_below-same (is_marked family) (rank_of_set family.set a.0) (rank_of_set family.set b.0) (marked family a.0 (a.1.position, a.1.stands.1))
    (marked family b.0 (b.1.position, b.1.stands.1)) (sym a.1.number_is ∙ e ∙ b.1.number_is) in
    let same : a.0 ≡ b.0 = rank_of_set-same family.set a.0 b.0 a.1.position.of_set b.1.position.of_set ranks in
    let back_s : mirrored (mirrored s) ≡ s = mirrored-mirrored s p.of_set.legal.squares in
    let back_t : mirrored (mirrored t) ≡ t = mirrored-mirrored t q.of_set.legal.squares in
    elim a.1.stands.0 [
      | inl x ↦ elim b.1.stands.0 [ inl y ↦ inl (cc) | inr y ↦ inr (cc) ]
      | inr x ↦ elim b.1.stands.0 [ inl y ↦ inr (cc) | inr y ↦ inl (cc) ]
    ]

-- ---- by the mark of its rank

-- the position is the representative of the class of that number
pub record IsAtClass (family : Family) (s : Setup) (class : ℕ) : Type 0 where
  pub representative : IsRepresentative family s
  pub before : HasClass family s class
  pub number_is : class_number family s ≡ class

-- that of a marked rank is
pub at_class : (family : Family) (s : Setup) (class : ℕ) → IsPositionOf family s → is_marked family (rank_of_set family.set s) ≡ true
    → classes_to_setup family s ≡ class → IsAtClass family s class
at_class family s class p on is = grind (arith, represents, HasClass-marked, class_number-representative)

pub first_told : (family : Family) (s : Setup) (class : ℕ) → IsPositionOf family s → is_marked family (rank_of_set family.set s) ≡ true
    → classes_to_setup family s ≡ class → (IsFirstOfTwo s × HasClass family s class) × (class ≡ class_number family s) × (class < classes_of family)
first_told family s class p on is =
    let at = at_class family s class p on is in
    ((at.representative.1, at.before), sym at.number_is, (number_told family s class p (sym at.number_is)).1)

-- a position without a mark is later than its mirror image
pub later_unmarked : (family : Family) (s : Setup) → IsPositionOf family s → is_marked family (rank_of_set family.set s) ≡ false → ¬ IsFirstOfTwo s
later_unmarked family s p off first = both_ways (is_marked family (rank_of_set family.set s)) off (marked family s (p, first))

pub class_of_marked : (family : Family) (s : Setup) (class : ℕ) → IsPositionOf family s → is_marked family (rank_of_set family.set s) ≡ true
    → class ≡ classes_to_setup family s → class ≡ class_number family s
class_of_marked family s class p on is = sym (at_class family s class p on (sym is)).number_is

pub class_of_unmarked : (family : Family) (s t : Setup) (class : ℕ) → IsPositionOf family s → is_marked family (rank_of_set family.set s) ≡ false
    → t ≡ mirrored s → class ≡ classes_to_setup family t → class ≡ class_number family s
class_of_unmarked family s t class p off image is =
    let e = earlier_in family s p in
    elim e.1.stands.0 [
      | inl same ↦ absurd (later_unmarked family s p off (subst IsFirstOfTwo same e.1.stands.1))
      | inr other ↦ is ∙ ap (classes_to_setup family) (image ∙ sym other) ∙ sym e.1.number_is
    ]
