-- The mover's piece on a square, by the sets of a board.
use Rattle.dob_pieces.proofs.Common.{◌≡◌, Some, arith, false, true, is_own, own_kind, Cell, piece_of, Kind, Chick, Elephant, Giraffe, Hen, Mover}
use Rattle.dob_pieces.specs.Boards.{is_elephant, is_giraffe, is_hen, is_own_lion}

pub own_giraffe : (cell : Cell) → is_own cell ≡ true → is_giraffe cell ≡ true → cell ≡ Some (piece_of Mover Giraffe)
own_giraffe cell own is = grind arith

pub own_elephant : (cell : Cell) → is_own cell ≡ true → is_elephant cell ≡ true → cell ≡ Some (piece_of Mover Elephant)
own_elephant cell own is = grind arith

pub own_hen : (cell : Cell) → is_own cell ≡ true → is_hen cell ≡ true → cell ≡ Some (piece_of Mover Hen)
own_hen cell own is = grind arith

-- a chick is what is left
pub own_chick : (cell : Cell) → is_own cell ≡ true → is_own_lion cell ≡ false → is_giraffe cell ≡ false → is_elephant cell ≡ false → is_hen cell ≡ false
    → cell ≡ Some (piece_of Mover Chick)
own_chick cell own l g e h = grind arith

-- what a cell whose own piece has that kind holds
pub own_cell : (cell : Cell) (kind : Kind) → own_kind cell ≡ Some kind → cell ≡ Some (piece_of Mover kind)
own_cell cell kind e = grind arith
