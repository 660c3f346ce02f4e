-- What the squares gone over give is appended.
use Rattle.dob_moves.proofs.Common.{AreSquares, IsWalked, is_empty, Setup}
use Rattle.dob_moves.proofs.Listed.{can_put, puts_on}
use Rattle.dob_moves.proofs.listing.push_drops_of.Given as goal

abbrev pub invariant-loop-to : goal.invariant-loop-to
invariant-loop-to l = (setup : Setup) → AreSquares setup is_empty l.fn.empty
    → IsWalked (can_put l.fn.profile setup l.kind) (puts_on l.fn.profile setup l.kind) l.to-iterator.left l.yielded l.initial.moves.items l.moves.items
