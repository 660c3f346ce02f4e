-- What the squares gone over give is appended.
use Rattle.dob_moves.proofs.Common.{AreSquares, IsBoardOf, IsWalked, is_end, Setup}
use Rattle.dob_moves.proofs.Listed.{may_step, steps_to}
use Rattle.dob_moves.proofs.listing.push_steps_by.Given as goal

abbrev pub invariant-loop-to : goal.invariant-loop-to
invariant-loop-to l = (setup : Setup) → IsBoardOf setup l.board → AreSquares setup is_end l.fn.ends
    → IsWalked (may_step setup l.kind l.from) (steps_to setup l.kind l.from) l.to-iterator.left l.yielded l.initial.moves.items l.moves.items
