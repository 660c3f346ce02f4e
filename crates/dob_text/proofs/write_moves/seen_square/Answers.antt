-- The square as the first or the second player sees it.
use Rattle.std.proofs.Common.{rules}
use Rattle.dob_text.proofs.write_moves.seen_square.Goals as goal

pub returns-then-second : goal.returns-then-second
returns-then-second c = search rules fits 100

pub returns-else-second : goal.returns-else-second
returns-else-second c = search rules fits 100
