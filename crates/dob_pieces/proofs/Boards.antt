-- Boards read, turned, mirrored and written.
use Rattle.dob_pieces.proofs.Common.{◌&&◌, ◌+◌, ◌-◌, ◌<◌, ◌∙◌, ◌∷◌, ◌≡◌, ◌≢◌, ◌≤◌, Bool, List, None, Some, [], ap, arith, length, ltb, not, refl, set, one_if}
use Rattle.dob_pieces.proofs.Common.{slice_index_or, subst, suc, sym, true, zero, ℕ, ⊎_elim, and_parts, both_ways, cases_eq, ltb-true, not-true}
use Rattle.dob_pieces.proofs.Common.{get_or-set_other, get_or_past, length-set, fill_by_all, get_or-map-range_with_len, get_or-le-sum_by, sum_by-set, count_by}
use Rattle.dob_pieces.proofs.Common.{sum_by, is_lion, is_side, leads, other_side, Cell, HasLions, IsLegal, at, board_by, holds_lion, mirrored, piece_of, turned}
use Rattle.dob_pieces.proofs.Common.{turned_cell, mirrored_square, turned_square, Kind, Lion, Piece, Side, Enemy, Mover, Setup}
use Rattle.std.proofs.Common.{rules}
use Rattle.std.proofs.lemmas.List.Edits.{fill_by_more}
use Rattle.dob_pieces.specs.declared.kind.HandKind.{HandKind}
use Rattle.dob_pieces.specs.Setups.{holds_kind, total, HasFewPieces, HasLionOffFarRow}

-- ---- boards made square by square
pub at-board_by : (f : ℕ → Cell) (k : ℕ) → k < 12 → slice_index_or (board_by f) k None ≡ f k
at-board_by f k h = get_or-map-range_with_len f 0 12 k k None h (omega arith)

-- a board of twelve squares, each of which has the cell that f says
pub board_by-from_cells : (f : ℕ → Cell) (board : List Cell) → length board ≡ 12 → ((k : ℕ) → k < 12 → slice_index_or board k None ≡ f k) → board ≡ board_by f
board_by-from_cells f board e h = fill_by_all f board 12 None e h

pub length-turned : (s : Setup) → length (turned s).board ≡ 12
unfolding turned
length-turned s = refl

pub length-mirrored : (s : Setup) → length (mirrored s).board ≡ 12
unfolding mirrored
length-mirrored s = refl

-- the cell of the turned setup
pub at-turned : (s : Setup) (k : ℕ) → k < 12 → at (turned s) k ≡ turned_cell (at s (11 - k))
unfolding turned
at-turned s k h = at-board_by (λ square. turned_cell (at s (turned_square square))) k h

-- the cell of the mirror image
pub at-mirrored : (s : Setup) (k : ℕ) → k < 12 → at (mirrored s) k ≡ at s (mirrored_square k)
unfolding mirrored
at-mirrored s k h = at-board_by (λ square. at s (mirrored_square square)) k h

-- one more cell is written
pub cells_more : (f : ℕ → Cell) (board : List Cell) (i : ℕ) (cell : Cell) → length board ≡ 12 → i < 12
    → ((k : ℕ) → k < i → slice_index_or board k None ≡ f k) → cell ≡ f i
    → (length (set board i cell) ≡ 12) × ((k : ℕ) → k < i + 1 → slice_index_or (set board i cell) k None ≡ f k)
cells_more f board i cell e lt h c = (
  length-set board i cell ∙ e,
  λ k l.
      subst (λ x. slice_index_or (set board i x) k None ≡ f k) (sym c)
      (fill_by_more f board i None (let within : i < length board = omega arith in within) h k l),
)

-- all twelve cells are written
pub cells_all : (f : ℕ → Cell) (board : List Cell) (i : ℕ) → length board ≡ 12 → 12 ≤ i
    → ((k : ℕ) → k < i → slice_index_or board k None ≡ f k) → board ≡ board_by f
cells_all f board i e le h = fill_by_all f board 12 None e (λ k lt. h k (omega arith))

-- ---- tests over all numbers below n

-- the test holds at each number below n
abbrev pub all_below : (ℕ → Bool) → ℕ → Bool
all_below f zero = true
all_below f (suc n) = f n && all_below f n

-- so it holds at each of them
pub all_below-at : (f : ℕ → Bool) (n k : ℕ) → all_below f n ≡ true → k < n → f k ≡ true
all_below-at f zero k h lt = absurd (omega arith)
all_below-at f (suc n) k h lt =
    ⊎_elim
    (λ (e : k ≡ n). subst (λ x. f x ≡ true) (sym e) (and_parts (f n) (all_below f n) h).0)
    (λ (ne : k ≡ n → ⊥). all_below-at f n k (and_parts (f n) (all_below f n) h).1 (omega arith))
    (cases_eq k n)

-- ---- sums over a board

-- what a half turn of the board does to a sum over its cells
pub sum-turned : (f g : Cell → ℕ) → ((cell : Cell) → f (turned_cell cell) ≡ g cell) → (board : List Cell) → length board ≡ 12
    → sum_by f (board_by (λ k. turned_cell (slice_index_or board (turned_square k) None))) ≡ sum_by g board
sum-turned f g h (a ∷ b ∷ c ∷ d ∷ e ∷ i ∷ j ∷ k ∷ l ∷ m ∷ n ∷ o ∷ []) eq = omega (arith, h a, h b, h c, h d, h e, h i, h j, h k, h l, h m, h n, h o)
sum-turned f g h board eq = absurd (omega arith)

-- what exchanging the columns a and c does to it: nothing
pub sum-mirrored : (f : Cell → ℕ) (board : List Cell) → length board ≡ 12
    → sum_by f (board_by (λ k. slice_index_or board (mirrored_square k) None)) ≡ sum_by f board
sum-mirrored f (a ∷ b ∷ c ∷ d ∷ e ∷ i ∷ j ∷ k ∷ l ∷ m ∷ n ∷ o ∷ []) eq = omega arith
sum-mirrored f board eq = absurd (omega arith)

-- ---- counts of a turned and of a mirrored board
turned-holds_kind : (kind : HandKind) (cell : Cell) → holds_kind kind (turned_cell cell) ≡ holds_kind kind cell
turned-holds_kind kind None = refl
turned-holds_kind kind (Some piece) = refl

turned-is_side : (side own : Side) → is_side side (other_side own) ≡ is_side (other_side side) own
turned-is_side Mover Mover = refl
turned-is_side Enemy Mover = refl
turned-is_side _ _ = refl

turned-holds_lion : (side : Side) (cell : Cell) → holds_lion side (turned_cell cell) ≡ holds_lion (other_side side) cell
turned-holds_lion side None = refl
turned-holds_lion side (Some piece) = ap (λ b. b && is_lion piece.kind) (turned-is_side side piece.side)

-- turning changes no total
pub total-turned : (kind : HandKind) (s : Setup) → length s.board ≡ 12 → total kind (turned s) ≡ total kind s
unfolding total turned
total-turned kind s e = grind (arith, sum-turned, turned-holds_kind)

-- nor does the mirror
pub total-mirrored : (kind : HandKind) (s : Setup) → length s.board ≡ 12 → total kind (mirrored s) ≡ total kind s
unfolding total mirrored
total-mirrored kind s e = grind (arith, sum-mirrored)

-- a side's lions are the other side's after turning
pub lions-turned : (side : Side) (s : Setup) → length s.board ≡ 12
    → count_by (holds_lion side) (turned s).board ≡ count_by (holds_lion (other_side side)) s.board
unfolding turned
lions-turned side s e = search (rules, sum-turned, turned-holds_lion)

pub lions-mirrored : (side : Side) (s : Setup) → length s.board ≡ 12 → count_by (holds_lion side) (mirrored s).board ≡ count_by (holds_lion side) s.board
unfolding mirrored
lions-mirrored side s e = sum-mirrored (λ cell. one_if (holds_lion side cell)) s.board e

-- ---- what turning and mirroring keep of a legal setup
pub HasLions-turned : (s : Setup) → length s.board ≡ 12 → HasLions s → HasLions (turned s)
HasLions-turned s e h side = lions-turned side s e ∙ h (other_side side)

pub HasFewPieces-turned : (s : Setup) → length s.board ≡ 12 → HasFewPieces s → HasFewPieces (turned s)
HasFewPieces-turned s e h kind = subst (λ (n : ℕ). n ≤ 2) (sym (total-turned kind s e)) (h kind)

-- the mirror image of row 4 is row 4
mirrored_far : (k : ℕ) → 9 ≤ k → k < 12 → 9 ≤ mirrored_square k
mirrored_far k low high = omega arith

HasLionOffFarRow-mirrored : (s : Setup) → HasLionOffFarRow s → HasLionOffFarRow (mirrored s)
HasLionOffFarRow-mirrored s h k low e = grind (arith, mirrored_far, at-mirrored, get_or_past, length-mirrored)

-- the mirror image of a legal setup is legal
pub IsLegal-mirrored : (s : Setup) → IsLegal s → IsLegal (mirrored s)
IsLegal-mirrored s h = search (rules, length-mirrored, lions-mirrored, total-mirrored, HasLionOffFarRow-mirrored)

-- ---- cells read and written

-- what stands somewhere stands on the board
pub within-from_piece : (s : Setup) (k : ℕ) (piece : Piece) → at s k ≡ Some piece → k < length s.board
within-from_piece s k piece e = grind (arith, get_or_past)

-- a count after one write: the old cell is counted no more, the new one is
pub count-set : (p : Cell → Bool) (board : List Cell) (i : ℕ) (cell : Cell) → i < length board
    → count_by p (set board i cell) + one_if (p (slice_index_or board i None)) ≡ count_by p board + one_if (p cell)
count-set p board i cell lt = sum_by-set (λ c. one_if (p c)) board i cell None lt

-- a count after a piece has gone from one square to another, where it stands as x
pub count-moved : (p : Cell → Bool) (board : List Cell) (from to : ℕ) (x : Cell) → from < length board → to < length board → from ≢ to
    → count_by p (set (set board from None) to x) + one_if (p (slice_index_or board from None))
    + one_if (p (slice_index_or board to None)) ≡ count_by p board + one_if (p None) + one_if (p x)
count-moved p board from to x f t ne = search (rules, count-set)

-- a side's lion passes as it
pub own_lion : (side : Side) → holds_lion side (Some (piece_of side Lion)) ≡ true
own_lion Mover = refl
own_lion Enemy = refl

lion_counts : (side : Side) (cell : Cell) → cell ≡ Some (piece_of side Lion) → one_if (holds_lion side cell) ≡ 1
lion_counts side cell e = ap (λ c. one_if (holds_lion side c)) e ∙ ap one_if (own_lion side)

-- where each side has one lion, a side's lion has one square
pub one_lion : (side : Side) (s : Setup) (i j : ℕ) → HasLions s → at s i ≡ Some (piece_of side Lion) → at s j ≡ Some (piece_of side Lion) → i ≡ j
one_lion side s i j h a b =
    ⊎_elim
    (λ (e : i ≡ j). e)
    (λ (ne : i ≡ j → ⊥).
    let f : Cell → ℕ = λ cell. one_if (holds_lion side cell) in
    let apart : j ≢ i = λ e. ne (sym e) in
    let there : j < length (set s.board i None) = rw length-set (within-from_piece s j _ b) in
    let gone : count_by (holds_lion side) (set s.board i None) + f (at s i) ≡ count_by (holds_lion side) s.board + 0
    = count-set (holds_lion side) s.board i None (within-from_piece s i _ a) in
    let left : f (at s j) ≤ sum_by f (set s.board i None)
    = rw get_or-set_other at (get_or-le-sum_by f (set s.board i None) j None there) in
    absurd (omega (arith, h side, gone, left, lion_counts side _ a, lion_counts side _ b)))
    (cases_eq i j)

-- ---- steps

-- a step ends on the board
pub leads-to_board : (kind : Kind) (from to : ℕ) → leads kind from to ≡ true → to < 12
unfolding leads
leads-to_board kind from to h = ltb-true to 12 (and_parts (ltb to 12) _ h).0

stays : (kind : Kind) → all_below (λ k. not (leads kind k k)) 12 ≡ true
unfolding leads
stays Lion = refl
stays _ = refl

-- no step stays where it is
pub leads-apart : (kind : Kind) (from to : ℕ) → leads kind from to ≡ true → from ≢ to
leads-apart kind from to h e =
    let here : leads kind to to ≡ true = subst (λ k. leads kind k to ≡ true) e h in
    let not_here : not (leads kind to to) ≡ true = all_below-at (λ k. not (leads kind k k)) 12 to (stays kind) (leads-to_board kind from to h) in
    both_ways (leads kind to to) (not-true (leads kind to to) not_here) here
