-- Moves in the mirror.
use Rattle.dob_pieces.specs.Squares.{mirrored_square}
use Rattle.dob_moves.specs.declared.game_move.Move.{Move}
use Rattle.dob_moves.specs.declared.game_move.Move.TheVariants.{Step, Put}

-- the same move with columns a and c exchanged
abbrev pub mirrored_move : Move → Move
mirrored_move (Step kind from to catch grows) = Step kind (mirrored_square from) (mirrored_square to) catch grows
mirrored_move (Put kind to) = Put kind (mirrored_square to)
