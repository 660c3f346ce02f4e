-- Each position of a set has one representative and one class number, and numbers stand in the order of the
-- representatives.
use Rattle.dob_rank.proofs.Common.{◌<◌, ◌∙◌, ◌≡◌, ◌≤◌, Bool, arith, inl, inr, refl, subst, suc, sym, true, zero, ℕ, cases_lt, mirrored, PieceSet, Setup}
use Rattle.dob_rank.proofs.Common.{marks_below, rank_of_set, Before, IsEither, IsFirstOfTwo, IsPositionOfSet, IsRepresentativeOfSet, RepresentativeOf, key}
use Rattle.dob_rank.proofs.Common.{nat_tests}
use Rattle.dob_pieces.proofs.Symmetries.{mirrored-mirrored}
use Rattle.dob_rank.specs.ClassRows.{marked_place}
use Rattle.dob_rank.proofs.Arithmetic.Order.{Precedes-irreflexive}
use Rattle.dob_rank.proofs.Positions.Found.{IsPositionOfSet-mirrored}
use Rattle.dob_rank.proofs.Positions.Numbering.{rank_of_set-rises, rank_of_set-same, Before-from_rank}
use Rattle.dob_rank.proofs.Marked.Words.{marks_below_more, marks_below_none}

-- no position stands before itself
pub not_before_itself : (p : Setup) → ¬ Before p p
unfolding Before
not_before_itself p before = Precedes-irreflexive (key p) before

-- ---- a position and its mirror image

-- a position of the set is no later than its mirror image where its rank isn't greater
pub first_by_rank : (set : PieceSet) (p : Setup) → IsPositionOfSet set p → rank_of_set set p ≤ rank_of_set set (mirrored p) → IsFirstOfTwo p
first_by_rank set p is le before =
    let rises = rank_of_set-rises set (mirrored p) p (IsPositionOfSet-mirrored set p is) is before in
    omega arith

pub rank_of_first : (set : PieceSet) (p : Setup) → IsPositionOfSet set p → IsFirstOfTwo p → rank_of_set set p ≤ rank_of_set set (mirrored p)
rank_of_first set p is first = elim (cases_lt (rank_of_set set (mirrored p)) (rank_of_set set p)) [
  | inl below ↦ absurd (first (Before-from_rank set (mirrored p) p (IsPositionOfSet-mirrored set p is) is below))
  | inr upto ↦ upto
]

-- each position of a set has a representative
pub has_representative_of_set : (set : PieceSet) (p : Setup) → IsPositionOfSet set p → (representative : Setup) × RepresentativeOf p representative
has_representative_of_set set p is =
    let image = IsPositionOfSet-mirrored set p is in
    let back = mirrored-mirrored p is.legal.squares in
    elim (cases_lt (rank_of_set set (mirrored p)) (rank_of_set set p)) [
      | inl below ↦ (mirrored p, (inr refl, first_by_rank set (mirrored p) image (rw back (omega arith))))
      | inr upto ↦ (p, (inl refl, first_by_rank set p is upto))
    ]

-- a position and its mirror image that are both first are the same
pub both_first : (set : PieceSet) (p : Setup) → IsPositionOfSet set p → IsFirstOfTwo p → IsFirstOfTwo (mirrored p) → p ≡ mirrored p
both_first set p is first image_first =
    let image = IsPositionOfSet-mirrored set p is in
    let up = rank_of_first set p is first in
    let down = rw (mirrored-mirrored p is.legal.squares) at (rank_of_first set (mirrored p) image image_first) in
    rank_of_set-same set p (mirrored p) is image (omega arith)

-- a representative that is one of another and its mirror image is that other
pub one_of_either_of_set : (set : PieceSet) (p q : Setup) → IsRepresentativeOfSet set p → IsRepresentativeOfSet set q → IsEither p q → q ≡ p
one_of_either_of_set set p q is_p is_q either = elim either [
  | inl same ↦ same
  | inr image ↦ image ∙ sym (both_first set p is_p.0 is_p.1 (subst IsFirstOfTwo image is_q.1))
]

-- a position of a set has one representative
pub same_representative_of_set : (set : PieceSet) (p a b : Setup) → IsPositionOfSet set p → RepresentativeOf p a → RepresentativeOf p b → a ≡ b
same_representative_of_set set p a b is at_a at_b = elim at_a.0 [
  | inl a_same ↦ elim at_b.0 [
    | inl b_same ↦ a_same ∙ sym b_same
    | inr b_image ↦ a_same ∙ both_first set p is (rw a_same at at_a.1) (rw b_image at at_b.1) ∙ sym b_image
  ]
  | inr a_image ↦ elim at_b.0 [
    | inl b_same ↦ a_image ∙ sym (both_first set p is (rw b_same at at_b.1) (rw a_image at at_a.1)) ∙ sym b_same
    | inr b_image ↦ a_image ∙ sym b_image
  ]
]

-- ---- the row of classes

-- a marked place with so many before it
pub record IsPlaceOf (mark : ℕ → Bool) (number bound place : ℕ) : Type 0 where
  pub below : place < bound
  pub marked : mark place ≡ true
  pub before : marks_below mark place ≡ number

pub place_found : (mark : ℕ → Bool) (number n : ℕ) → number < marks_below mark n → IsPlaceOf mark number n (marked_place mark number n)
place_found mark number zero below = absurd (omega (arith, marks_below_none mark, below))
place_found mark number (suc n) below = grind (arith, nat_tests, place_found mark number n, marks_below_more mark n, below)
