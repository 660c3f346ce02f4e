-- What stands on a square as a number.
use Rattle.std.specs.Prelude.{ℕ, ◌+◌, Some, None}
use Rattle.dob_pieces.specs.declared.kind.Side.{Side}
use Rattle.dob_pieces.specs.declared.kind.Side.TheVariants.{Mover, Enemy}
use Rattle.dob_pieces.specs.Setups.{Cell}
use Rattle.dob_foreign.specs.Moves.{kind_number}

-- the number of a side's first kind
abbrev pub side_number : Side → ℕ
side_number Mover = 1
side_number Enemy = 6

-- 0 for an empty square, else the kind's number behind its side's
abbrev pub cell_number : Cell → ℕ
cell_number None = 0
cell_number (Some piece) = side_number piece.side + kind_number piece.kind
