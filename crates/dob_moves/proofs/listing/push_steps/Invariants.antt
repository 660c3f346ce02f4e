-- What the squares gone over give is appended.
use Rattle.dob_moves.proofs.Common.{IsBoardOf, IsWalked, steps_from, Elsewhere, Setup}
use Rattle.dob_moves.proofs.Listed.{own_at}
use Rattle.dob_moves.proofs.listing.push_steps.Given as goal

abbrev pub invariant-loop-from : goal.invariant-loop-from
invariant-loop-from l = (setup : Setup) → IsBoardOf setup l.board
    → IsWalked (own_at setup) (steps_from Elsewhere setup) l.from-iterator.left l.yielded l.initial.moves.items l.moves.items
