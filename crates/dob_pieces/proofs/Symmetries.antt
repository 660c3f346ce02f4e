-- Turning and mirroring, done twice and one after the other.
use Rattle.dob_pieces.proofs.Common.{◌-◌, ◌<◌, ◌∙◌, ◌≡◌, Bool, List, None, Some, ap, arith, eqb, false, length, refl, sym, true, ℕ, eqb-true, beq, leads}
use Rattle.dob_pieces.proofs.Common.{other_side, Cell, at, board_by, mirrored, piece_of, setup_of, turned, turned_cell, mirrored_square, turned_square, Kind}
use Rattle.dob_pieces.proofs.Common.{Lion, Side, Enemy, Mover, Setup}
use Rattle.dob_pieces.proofs.Boards.{at-board_by, board_by-from_cells, at-turned, at-mirrored, all_below, all_below-at, total-turned, total-mirrored}
use Rattle.dob_pieces.proofs.Boards.{IsLegal-mirrored}

-- ---- squares
pub turned_square_twice : (k : ℕ) → k < 12 → turned_square (turned_square k) ≡ k
turned_square_twice k lt = omega arith

pub mirrored_square_bound : (k : ℕ) → k < 12 → mirrored_square k < 12
mirrored_square_bound k lt = omega arith

pub mirrored_square_twice : (k : ℕ) → k < 12 → mirrored_square (mirrored_square k) ≡ k
mirrored_square_twice k lt =
    eqb-true (mirrored_square (mirrored_square k)) k (all_below-at (λ n. eqb (mirrored_square (mirrored_square n)) n) 12 k refl lt)

pub mirrored-turned_square : (k : ℕ) → k < 12 → mirrored_square (turned_square k) ≡ turned_square (mirrored_square k)
mirrored-turned_square k lt = grind (arith, all_below-at)

-- ---- pieces
pub other_side_twice : (side : Side) → other_side (other_side side) ≡ side
other_side_twice Mover = refl
other_side_twice Enemy = refl

pub turned_cell_twice : (cell : Cell) → turned_cell (turned_cell cell) ≡ cell
turned_cell_twice None = refl
turned_cell_twice (Some piece) = ap (λ (side : Side). let p : Cell = Some (piece_of side piece.kind) in p) (other_side_twice piece.side)

-- ---- setups

-- boards made square by square are equal where they agree on the twelve squares
pub board_by-same : (f g : ℕ → Cell) → ((k : ℕ) → k < 12 → f k ≡ g k) → board_by f ≡ board_by g
board_by-same f g h = board_by-from_cells g (board_by f) refl (λ k lt. at-board_by f k lt ∙ h k lt)

-- what stands on a square's image
pub at-image : (s : Setup) (k : ℕ) → k < 12 → at (mirrored s) (mirrored_square k) ≡ at s k
at-image s k lt = at-mirrored s (mirrored_square k) (mirrored_square_bound k lt) ∙ ap (at s) (mirrored_square_twice k lt)

-- turning twice gives the setup back
pub turned-turned : (s : Setup) → length s.board ≡ 12 → turned (turned s) ≡ s
unfolding turned
turned-turned s e =
    let cells : (k : ℕ) → k < 12 → at s k ≡ turned_cell (at (turned s) (turned_square k))
    = λ k lt. sym (ap turned_cell (at-turned s (11 - k) (omega arith)) ∙ turned_cell_twice (at s (11 - (11 - k))) ∙ ap (at s) (turned_square_twice k lt)) in
    sym (ap (λ (board : List Cell). setup_of board s.hands) (board_by-from_cells (λ k. turned_cell (at (turned s) (turned_square k))) s.board e cells))

-- mirroring twice too
pub mirrored-mirrored : (s : Setup) → length s.board ≡ 12 → mirrored (mirrored s) ≡ s
unfolding mirrored
mirrored-mirrored s e =
    sym (ap (λ (board : List Cell). setup_of board s.hands)
    (board_by-from_cells (λ k. at (mirrored s) (mirrored_square k)) s.board e (λ k lt. sym (at-image s k lt))))

-- turning and mirroring commute
pub turned-mirrored : (s : Setup) → turned (mirrored s) ≡ mirrored (turned s)
unfolding turned mirrored
turned-mirrored s = grind (arith, at-mirrored, mirrored-turned_square, at-turned, mirrored_square_bound, board_by-same)

-- ---- steps

-- the mirror image of a step is a step, on all pairs of squares
steps_mirror : (kind : Kind) → all_below
    (λ from. all_below (λ to. beq (leads kind (mirrored_square from) (mirrored_square to)) (leads kind from to)) 12) 12 ≡ true
unfolding leads
steps_mirror Lion = refl
steps_mirror _ = refl

pub beq-true : (a b : Bool) → beq a b ≡ true → a ≡ b
beq-true true true h = refl
beq-true true false h = cc
beq-true false true h = cc
beq-true false false h = refl

pub leads-mirrored : (kind : Kind) (from to : ℕ) → from < 12 → to < 12 → leads kind (mirrored_square from) (mirrored_square to) ≡ leads kind from to
leads-mirrored kind from to f t =
    let test : ℕ → ℕ → Bool = λ a b. beq (leads kind (mirrored_square a) (mirrored_square b)) (leads kind a b) in
    beq-true _ _ (all_below-at (test from) 12 to (all_below-at (λ a. all_below (test a) 12) 12 from (steps_mirror kind) f) t)

-- the laws as functions state them
pub ruleset laws = (turned-turned, mirrored-mirrored, turned-mirrored, total-turned, total-mirrored, IsLegal-mirrored, leads-mirrored)
