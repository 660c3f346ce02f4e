-- A chick in hand is a chick on the board.
use Rattle.std.proofs.Common.{rules}
use Rattle.dob_pieces.proofs.kind.HandKind.on_board.Goals as goal

pub returns-in-Chick : goal.returns-in-Chick
returns-in-Chick c = search rules fits 100
