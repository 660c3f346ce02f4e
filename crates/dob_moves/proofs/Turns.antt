-- When a turned setup is a position.
use Rattle.dob_moves.proofs.Common.{◌<◌, ◌∙◌, ◌≡◌, ◌≢◌, ◌≤◌, None, Some, ap, arith, length, sym, ℕ, get_or_past, HasFewPieces-turned, HasLions-turned}
use Rattle.dob_moves.proofs.Common.{at-turned, length-turned, other_side, Cell, HasFewPieces, HasLionOffFarRow, HasLions, IsLegal, at, piece_of, turned}
use Rattle.dob_moves.proofs.Common.{turned_cell, Kind, Lion, Side, Enemy, Mover, Setup}
use Rattle.dob_pieces.proofs.Symmetries.{turned_cell_twice}
use Rattle.std.proofs.Common.{rules}

-- the side and the kind of what stands on a square
abbrev pub side_of : Cell → Side
side_of None = Enemy
side_of (Some piece) = piece.side

abbrev pub kind_of : Cell → Kind
kind_of None = Lion
kind_of (Some piece) = piece.kind

-- a piece of the one side is none of the other
pub sides_apart : (kind other : Kind) → Some (piece_of Enemy kind) ≢ Some (piece_of Mover other)
sides_apart kind other e = let s : Enemy ≡ Mover = ap side_of e in cc

-- no enemy lion on row 1
abbrev pub IsFreeOfTry : Setup → Type 0
IsFreeOfTry p = (k : ℕ) → k < 3 → at p k ≢ Some (piece_of Enemy Lion)

-- what is a side's lion after turning was the other side's
pub turned_lion : (side : Side) (c : Cell) → turned_cell c ≡ Some (piece_of side Lion) → c ≡ Some (piece_of (other_side side) Lion)
turned_lion side c e = sym (turned_cell_twice c) ∙ ap turned_cell e

-- nothing stands beyond the turned board
at-turned_past : (p : Setup) (k : ℕ) → 12 ≤ k → at (turned p) k ≡ None
at-turned_past p k h = get_or_past (turned p).board k None (omega (arith, length-turned p))

-- with no enemy lion on row 1, the turned mover's lion isn't on row 4
HasLionOffFarRow-turned : (p : Setup) → IsFreeOfTry p → HasLionOffFarRow (turned p)
HasLionOffFarRow-turned p free k far is = grind (arith, turned_lion, at-turned, at-turned_past)

-- a turned setup is a position
pub IsLegal-turned : (p : Setup) → length p.board ≡ 12 → HasLions p → HasFewPieces p → IsFreeOfTry p → IsLegal (turned p)
IsLegal-turned p twelve lions few free = search (rules, length-turned, HasLions-turned, HasFewPieces-turned, HasLionOffFarRow-turned)
