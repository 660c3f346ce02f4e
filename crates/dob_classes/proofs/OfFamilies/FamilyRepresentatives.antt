-- Each position of a family has one representative and one class number, and numbers stand in the order of the representatives: as those of a set
-- (proofs/Representatives).
use Rattle.dob_classes.proofs.Common.{◌<◌, ◌↔◌, ◌∙◌, ◌≡◌, ◌≤◌, ap, arith, inl, inr, refl, rules, subst, sym, ℕ, mirrored-mirrored, IsAllowed, IsLegal, mirrored}
use Rattle.dob_classes.proofs.Common.{PieceSet, Family, Profile, Setup, numbering, place_found, HasClass-marked, HasClasses-classes_of, HasRank-rank_of}
use Rattle.dob_classes.proofs.Common.{present, represents, IsPositionOfSet-mirrored, Before-from_rank, rank_of_set-rises, rank_of_set-same, marked_place}
use Rattle.dob_classes.proofs.Common.{HasClass, HasClasses, HasRank, IsInClass, IsPositionOf, IsRepresentative, RepresentsClass, family_of, is_present}
use Rattle.dob_classes.proofs.Common.{class_number, class_setup, classes_of, is_marked, rank_of, marks_below, nth, rank_of_set, size_of_set, Before, IsEither}
use Rattle.dob_classes.proofs.Common.{IsFirstOfTwo, IsPositionOfSet, RepresentativeOf}
use Rattle.dob_rank.proofs.OfFamilies.FamilyOrder.{rank_of-rises}
use Rattle.dob_rank.proofs.Positions.Sets.{set_of, IsPositionOfSet-set_of}
use Rattle.dob_classes.proofs.OfFamilies.Counted.{fewer, one_count}
use Rattle.dob_rank.proofs.Marked.Representatives.{not_before_itself, has_representative_of_set, one_of_either_of_set, same_representative_of_set, IsPlaceOf}
use Rattle.dob_classes.proofs.OfFamilies.FamilyNumbers.{IsAtClass, IsInClass-class_number, IsPositionOf-mirrored, below_by_marks, class_number-mirrored}
use Rattle.dob_classes.proofs.OfFamilies.FamilyNumbers.{earlier_is, marks_below-rises, number_told}

-- ---- a position and its mirror image
pub has_representative : (family : Family) (p : Setup) → IsPositionOf family p → (representative : Setup) × RepresentativeOf p representative
has_representative family p is = has_representative_of_set family.set p is.of_set

-- which is a representative of the family
pub representative_is : (family : Family) (p representative : Setup) → IsPositionOf family p → RepresentativeOf p representative
    → IsRepresentative family representative
representative_is family p representative is represents = ((earlier_is family p representative is represents).position, represents.1)

-- a representative that is one of another and its mirror image is that other
pub one_of_either : (family : Family) (p q : Setup) → IsRepresentative family p → IsRepresentative family q → IsEither p q → q ≡ p
one_of_either family p q is_p is_q either = one_of_either_of_set family.set p q (is_p.0.of_set, is_p.1) (is_q.0.of_set, is_q.1) either

-- a position of a family has one representative
pub same_representative : (family : Family) (p a b : Setup) → IsPositionOf family p → RepresentativeOf p a → RepresentativeOf p b → a ≡ b
same_representative family p a b is at_a at_b = same_representative_of_set family.set p a b is.of_set at_a at_b

-- a representative is its own
pub represents_itself : (family : Family) (p : Setup) → IsRepresentative family p → RepresentativeOf p p
represents_itself family p is = (inl refl, is.1)

-- ---- class numbers

-- a representative's class number is below the number of classes
pub class_within : (family : Family) (representative : Setup) (class classes : ℕ) → IsRepresentative family representative
    → HasClass family representative class → HasClasses family classes → class < classes
class_within family representative class classes is number all =
    fewer (λ (q : Setup). IsRepresentative family q × Before q representative) (IsRepresentative family) class classes representative number all
    (λ q earlier. earlier.0) is (λ earlier. not_before_itself representative earlier.1)

-- later representatives have greater class numbers
class_rises : (family : Family) (p q : Setup) (m n : ℕ) → IsRepresentative family p → IsRepresentative family q → HasClass family p m
    → HasClass family q n → rank_of_set family.set p < rank_of_set family.set q → m < n
class_rises family p q m n is_p is_q at_p at_q below =
    fewer (λ (s : Setup). IsRepresentative family s × Before s p) (λ (s : Setup). IsRepresentative family s × Before s q) m n p at_p at_q
    (λ s earlier.
    let rises = rank_of_set-rises family.set s p earlier.0.0.of_set is_p.0.of_set earlier.1 in
    (earlier.0, Before-from_rank family.set s q earlier.0.0.of_set is_q.0.of_set (omega arith)))
    (is_p, Before-from_rank family.set p q is_p.0.of_set is_q.0.of_set below) (λ earlier. not_before_itself p earlier.1)

-- representatives with the same class number are the same
pub one_of_class : (family : Family) (p q : Setup) (class : ℕ) → IsRepresentative family p → IsRepresentative family q
    → HasClass family p class → HasClass family q class → p ≡ q
one_of_class family p q class is_p is_q at_p at_q = rank_of_set-same family.set p q is_p.0.of_set is_q.0.of_set
    (grind (arith, class_rises family p q class class is_p is_q at_p at_q, class_rises family q p class class is_q is_p at_q at_p))

-- the same representatives have the same class number
pub one_number : (family : Family) (p q : Setup) (a b : ℕ) → HasClass family p a → HasClass family q b → q ≡ p → a ≡ b
one_number family p q a b at_p at_q same =
    one_count (λ s. IsRepresentative family s × Before s p) a b at_p (subst (λ s. HasClass family s b) same at_q)

-- ---- laws

-- a position has one class number
pub one_class : (family : Family) (p : Setup) (a b : ℕ) → IsInClass family p a → IsInClass family p b → a ≡ b
one_class family p a b at_a at_b = search (rules, one_number, same_representative)

pub one_representative : (family : Family) (p q : Setup) (class : ℕ) → RepresentsClass family p class → RepresentsClass family q class → p ≡ q
one_representative family p q class at_p at_q = one_of_class family p q class at_p.0 at_q.0 at_p.1 at_q.1

pub ranks_keep_order : (family : Family) (p q : Setup) (a b : ℕ) → IsPositionOf family p → IsPositionOf family q
    → HasRank family p a → HasRank family q b → (Before p q ↔ (a < b))
unfolding rank_of
ranks_keep_order family p q a b is_p is_q at_p at_q =
    let same_p : a ≡ rank_of family p = one_count (λ s. IsPositionOf family s × Before s p) a (rank_of family p) at_p (HasRank-rank_of family p is_p) in
    let same_q : b ≡ rank_of family q = one_count (λ s. IsPositionOf family s × Before s q) b (rank_of family q) at_q (HasRank-rank_of family q is_q) in (
      λ before. (let rises = marks_below-rises (is_present family) (rank_of_set family.set p) (rank_of_set family.set q) (present family p is_p)
          (rank_of_set-rises family.set p q is_p.of_set is_q.of_set before) in omega (arith, same_p, same_q, rises)),
      λ below. Before-from_rank family.set p q is_p.of_set is_q.of_set
          (below_by_marks (is_present family) (rank_of_set family.set p) (rank_of_set family.set q) (omega (arith, same_p, same_q, below))),
    )

pub classes_keep_order : (family : Family) (p q : Setup) (a b : ℕ) → RepresentsClass family p a → RepresentsClass family q b → (Before p q ↔ (a < b))
classes_keep_order family p q a b at_p at_q =
    let of_p = at_p.0.0.of_set in
    let of_q = at_q.0.0.of_set in
    let one : rank_of_set family.set q ≡ rank_of_set family.set p → a ≡ b
    = λ same. one_number family p q a b at_p.1 at_q.1 (rank_of_set-same family.set q p of_q of_p same) in (
      λ before. class_rises family p q a b at_p.0 at_q.0 at_p.1 at_q.1 (rank_of_set-rises family.set p q of_p of_q before),
      λ below. Before-from_rank family.set p q of_p of_q (grind (arith, below, one, class_rises family q p b a at_q.0 at_p.0 at_q.1 at_p.1)),
    )

-- ---- the row of classes

-- the representative of each class number
pub class_setup_is : (family : Family) (class classes : ℕ) → HasClasses family classes → class < classes
    → RepresentsClass family (class_setup family class) class
unfolding class_setup classes_of
class_setup_is family class classes all below =
    let count : classes ≡ marks_below (is_marked family) (size_of_set family.set) =
    one_count (IsRepresentative family) classes (marks_below (is_marked family) (size_of_set family.set)) all (HasClasses-classes_of family) in
    let rank = marked_place (is_marked family) class (size_of_set family.set) in
    let found : IsPlaceOf (is_marked family) class (size_of_set family.set) rank =
    place_found (is_marked family) class (size_of_set family.set) (subst (λ n. class < n) count below) in
    let is = (numbering family.set).sound rank found.below in
    let back : rank_of_set family.set (nth family.set rank) ≡ rank = (numbering family.set).forth rank found.below in
    let represents_it = represents family (nth family.set rank) is (ap (is_marked family) back ∙ found.marked) in
    (represents_it, rw (back, found.before) at (HasClass-marked family (nth family.set rank) represents_it.0))

-- and no other
pub class_setup_only : (family : Family) (representative : Setup) (class classes : ℕ) → HasClasses family classes → class < classes
    → IsRepresentative family representative → HasClass family representative class → representative ≡ class_setup family class
class_setup_only family representative class classes all below is number =
    let there = class_setup_is family class classes all below in
    one_of_class family representative (class_setup family class) class is there.0 number there.1

pub setup_at_class : (family : Family) (s : Setup) (class : ℕ) → IsAtClass family s class → s ≡ class_setup family class
setup_at_class family s class at =
    let below = (number_told family s class at.representative.0 (sym at.number_is)).1 in
    class_setup_only family s class (classes_of family) (HasClasses-classes_of family) below at.representative at.before

-- ---- the class that a position is in

-- a class's representative
pub class_representative : (family : Family) (s : Setup) (class : ℕ) (is : IsInClass family s class) → RepresentsClass family is.representative class
class_representative family s class is = (representative_is family s is.representative is.position is.stands, is.before)

-- a position and its mirror image are in one class
pub in_mirror : (family : Family) (s : Setup) (class : ℕ) → IsInClass family s class → IsInClass family (mirrored s) class
in_mirror family s class is =
    let own = one_class family s class (class_number family s) is (IsInClass-class_number family s is.position) in
    rw (own, ← class_number-mirrored family s is.position) (IsInClass-class_number family (mirrored s) (IsPositionOf-mirrored family s is.position))

-- ---- the earlier of a position and its mirror image, by their ranks

-- a rank in the profile's family of each set of the position
abbrev pub RankOf : Profile → Setup → ℕ → Type 0
RankOf profile s n = (set : PieceSet) → IsPositionOfSet set s → n ≡ rank_of (family_of set profile) s

not_before : (family : Family) (p q : Setup) (m n : ℕ) → IsPositionOf family p → IsPositionOf family q → m ≡ rank_of family p → n ≡ rank_of family q → n ≤ m
    → Before p q → ⊥
not_before family p q m n hp hq rp rq le before = let up = rank_of-rises family p q hp hq before in omega (arith, rp, rq, up, le)

-- the position of the lower rank stands first
stands_first : (profile : Profile) (set : PieceSet) (s t : Setup) (m n : ℕ) → IsPositionOfSet set s → IsPositionOfSet set t → t ≡ mirrored s
    → IsAllowed profile s → IsAllowed profile t → RankOf profile t m → RankOf profile s n → n ≤ m → IsFirstOfTwo s
stands_first profile set s t m n ps pt e allowed image rt rs le before =
    not_before (family_of set profile) t s m n (record { of_set = pt; allowed = image }) (record { of_set = ps; allowed = allowed }) (rt set pt) (rs set ps) le
    (rw e before)

-- the image has the lower rank
pub image_first : (profile : Profile) (s t : Setup) (legal : IsLegal s) (m n : ℕ) → t ≡ mirrored s → IsAllowed profile s → IsAllowed profile t
    → RankOf profile t m → RankOf profile s n → m < n → RepresentativeOf s t
image_first profile s t legal m n e allowed image rt rs lt =
    let ps : IsPositionOfSet (set_of s legal) s = IsPositionOfSet-set_of s legal in
    let pt : IsPositionOfSet (set_of s legal) t = rw e (IsPositionOfSet-mirrored (set_of s legal) s ps) in
    let back : s ≡ mirrored t = sym (ap mirrored e ∙ mirrored-mirrored s legal.squares) in
    (inr e, stands_first profile (set_of s legal) t s n m pt ps back image allowed rs rt (omega (arith, lt)))

-- or else the position is the earlier one
pub itself_first : (profile : Profile) (s t : Setup) (legal : IsLegal s) (m n : ℕ) → t ≡ mirrored s → IsAllowed profile s → IsAllowed profile t
    → RankOf profile t m → RankOf profile s n → n ≤ m → RepresentativeOf s s
itself_first profile s t legal m n e allowed image rt rs le =
    let ps : IsPositionOfSet (set_of s legal) s = IsPositionOfSet-set_of s legal in
    let pt : IsPositionOfSet (set_of s legal) t = rw e (IsPositionOfSet-mirrored (set_of s legal) s ps) in
    (inl refl, stands_first profile (set_of s legal) s t m n ps pt e allowed image rt rs le)
