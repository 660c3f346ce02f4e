-- A piece counts as the kind that it is in hand.
use Rattle.std.proofs.Common.{rules}
use Rattle.dob_pieces.proofs.setup.holds_kind.Goals as goal

pub returns-in-Some : goal.returns-in-Some
returns-in-Some c = search rules fits 100
