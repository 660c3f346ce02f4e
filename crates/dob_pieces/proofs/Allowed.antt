-- A setup is allowed by a profile where each of its squares is, and so is its mirror image.
use Rattle.dob_pieces.proofs.Common.{◌+◌, ◌<◌, ◌==◌, ◌∙◌, ◌∷◌, ◌≡◌, Bool, List, None, Some, [], ap, arith, length, not, refl, slice_index_or, suc, sym, true}
use Rattle.dob_pieces.proofs.Common.{zero, ℕ, and_from, and_parts, beq, other_side, IsAllowed, is_allowed, is_far, may_all_stand, may_stand, Cell, at, mirrored}
use Rattle.dob_pieces.proofs.Common.{turned, turned_cell, mirrored_square, row, turned_square, Kind, Chick, Side, Enemy, Mover, Setup}
use Rattle.dob_pieces.specs.declared.profile.Profile.{Profile}
use Rattle.dob_pieces.specs.declared.profile.Profile.TheVariants.{A, B}
use Rattle.dob_pieces.proofs.Boards.{length-turned, at-turned, length-mirrored, at-mirrored, all_below, all_below-at}
use Rattle.dob_pieces.proofs.Symmetries.{turned_square_twice, mirrored_square_bound, beq-true}

-- ---- cells from a square on

-- each of them may stand where all may
each_stands : (profile : Profile) (from : ℕ) (cells : List Cell) (k : ℕ) → may_all_stand profile from cells ≡ true → k < length cells
    → may_stand profile (from + k) (slice_index_or cells k None) ≡ true
each_stands profile from [] k h lt = absurd (omega arith)
each_stands profile from (cell ∷ cells) zero h lt =
    ap (λ (square : ℕ). may_stand profile square cell) (omega arith)
    ∙ (and_parts (may_stand profile from cell) (may_all_stand profile (suc from) cells) h).0
each_stands profile from (cell ∷ cells) (suc k) h lt =
    ap (λ (square : ℕ). may_stand profile square (slice_index_or cells k None)) (omega arith)
    ∙ each_stands profile (suc from) cells k (and_parts (may_stand profile from cell) (may_all_stand profile (suc from) cells) h).1 (omega arith)

-- and all may where each of them may
all_stand : (profile : Profile) (from : ℕ) (cells : List Cell)
    → ((k : ℕ) → k < length cells → may_stand profile (from + k) (slice_index_or cells k None) ≡ true) → may_all_stand profile from cells ≡ true
all_stand profile from [] each = refl
all_stand profile from (cell ∷ cells) each =
    and_from (may_stand profile from cell) (may_all_stand profile (suc from) cells)
    (ap (λ (square : ℕ). may_stand profile square cell) (omega arith) ∙ each 0 (omega arith))
    (all_stand profile (suc from) cells
    (λ k lt. ap (λ (square : ℕ). may_stand profile square (slice_index_or cells k None)) (omega arith) ∙ each (suc k) (omega arith)))

-- ---- setups

-- in each profile, since A lets anything stand
pub is_allowed-stand : (profile : Profile) (s : Setup) → is_allowed profile s ≡ may_all_stand profile 0 s.board
is_allowed-stand A s = sym (all_stand A 0 s.board (λ k lt. refl))
is_allowed-stand B s = refl

pub stands-from_allowed : (profile : Profile) (s : Setup) (k : ℕ) → length s.board ≡ 12 → IsAllowed profile s → k < 12
    → may_stand profile k (at s k) ≡ true
stands-from_allowed profile s k e h lt =
    ap (λ (square : ℕ). may_stand profile square (at s k)) (omega arith)
    ∙ each_stands profile 0 s.board k (sym (is_allowed-stand profile s) ∙ h) (omega arith)

pub allowed-from_stands : (profile : Profile) (s : Setup) → length s.board ≡ 12 → ((k : ℕ) → k < 12 → may_stand profile k (at s k) ≡ true)
    → IsAllowed profile s
allowed-from_stands profile s e each = grind (arith, is_allowed-stand, all_stand)

-- ---- tests of squares

-- two tests that agree on the twelve squares, one by one
same_test : (f g : ℕ → Bool) (k : ℕ) → all_below (λ n. beq (f n) (g n)) 12 ≡ true → k < 12 → f k ≡ g k
same_test f g k all lt = beq-true (f k) (g k) (all_below-at (λ n. beq (f n) (g n)) 12 k all lt)

-- ---- the mirror image

-- it has its cells on the same rows
may_stand-mirrored : (profile : Profile) (k : ℕ) (cell : Cell) → k < 12 → may_stand profile k cell ≡ may_stand profile (mirrored_square k) cell
may_stand-mirrored A k cell lt = refl
may_stand-mirrored B k None lt = refl
may_stand-mirrored B k (Some piece) lt = grind (arith, all_below-at)

pub IsAllowed-mirrored : (profile : Profile) (s : Setup) → length s.board ≡ 12 → IsAllowed profile s → IsAllowed profile (mirrored s)
IsAllowed-mirrored profile s e h =
    grind (arith, allowed-from_stands, length-mirrored, at-mirrored, may_stand-mirrored, stands-from_allowed, mirrored_square_bound)

-- ---- the other side's view

-- what stands on the square that a half turn leads to is as far from its far row
turned_stands : (side : Side) (kind : Kind) (k : ℕ) → k < 12 → is_far (other_side side) kind (row (turned_square k)) ≡ is_far side kind (row k)
turned_stands Mover Chick k lt = same_test (λ n. row (turned_square n) == 0) (λ n. row n == 3) k refl lt
turned_stands Enemy Chick k lt = same_test (λ n. row (turned_square n) == 3) (λ n. row n == 0) k refl lt
turned_stands _ _ k lt = refl

may_stand-turned : (profile : Profile) (k : ℕ) (cell : Cell) → k < 12 → may_stand profile (turned_square k) (turned_cell cell) ≡ may_stand profile k cell
may_stand-turned A k cell lt = refl
may_stand-turned B k None lt = refl
may_stand-turned B k (Some piece) lt = ap not (turned_stands piece.side piece.kind k lt)

pub IsAllowed-turned : (profile : Profile) (s : Setup) → length s.board ≡ 12 → IsAllowed profile s → IsAllowed profile (turned s)
IsAllowed-turned profile s e h =
    allowed-from_stands profile (turned s) (length-turned s)
    (λ k lt.
    let far : turned_square k < 12 = omega arith in
    ap (may_stand profile k) (at-turned s k lt)
    ∙ ap (λ (square : ℕ). may_stand profile square (turned_cell (at s (turned_square k)))) (sym (turned_square_twice k lt))
    ∙ may_stand-turned profile (turned_square k) (at s (turned_square k)) far
    ∙ stands-from_allowed profile s (turned_square k) e h far)

pub ruleset images = (IsAllowed-mirrored)
