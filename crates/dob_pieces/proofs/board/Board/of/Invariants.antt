-- The word has the planes of the squares gone over.
use Rattle.std.proofs.Common.{◌≡◌, drop}
use Rattle.dob_pieces.specs.Boards.{planes_of}
use Rattle.dob_pieces.proofs.board.Board.of.Given as goal

abbrev pub invariant-loop-square : goal.invariant-loop-square
invariant-loop-square l = l.planes ≡ planes_of (drop l.square l.setup.board)
