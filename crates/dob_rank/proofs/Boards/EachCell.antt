-- What holds of an empty cell and of each piece of each side holds of every cell.
use Rattle.dob_rank.proofs.Common.{None, Some, Cell, piece_of, Kind, Chick, Elephant, Giraffe, Hen, Lion, Side, Enemy, Mover}

-- what holds of a side's lion, giraffe, elephant, chick and hen
abbrev pub OfEachKind : (Cell → Type 0) → Side → Type 0
OfEachKind Holds side =
    Holds (Some (piece_of side Lion)) × Holds (Some (piece_of side Giraffe)) × Holds (Some (piece_of side Elephant))
    × Holds (Some (piece_of side Chick)) × Holds (Some (piece_of side Hen))

pub of_cell : (Holds : Cell → Type 0) → Holds None → OfEachKind Holds Mover → OfEachKind Holds Enemy → (cell : Cell) → Holds cell
of_cell Holds empty mover enemy None = empty
of_cell Holds empty mover enemy (Some found) = of_piece found.side found.kind
  where
    of_piece : (side : Side) (kind : Kind) → Holds (Some (piece_of side kind))
    of_piece Mover Lion = mover.0
    of_piece Mover Giraffe = mover.1
    of_piece Mover Elephant = mover.2
    of_piece Mover Chick = mover.3
    of_piece Mover Hen = mover.4
    of_piece Enemy Lion = enemy.0
    of_piece Enemy Giraffe = enemy.1
    of_piece Enemy Elephant = enemy.2
    of_piece Enemy Chick = enemy.3
    of_piece Enemy Hen = enemy.4
