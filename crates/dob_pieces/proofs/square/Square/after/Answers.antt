-- A step that stays on the board.
use Rattle.std.proofs.Common.{rules}
use Rattle.dob_pieces.proofs.square.Square.after.Goals as goal

pub returns-else-column-gt0 : goal.returns-else-column-gt0
returns-else-column-gt0 c = search rules fits 100
