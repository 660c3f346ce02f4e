-- None of the moves so far leads to what is taken for lost.
use Rattle.dob_certificate.proofs.Common.{◌<◌, false, ℕ}
use Rattle.dob_moves.specs.Shown.{setup_on}
use Rattle.dob_certificate.specs.Asked.{TakesForLost}
use Rattle.dob_certificate.proofs.Walked.{LeadsAt}
use Rattle.dob_certificate.proofs.asking.has_reply.Given as goal

abbrev pub invariant-loop-place : goal.invariant-loop-place
invariant-loop-place g l = (k : ℕ) → k < l.place → LeadsAt l.family.profile (setup_on l.position.board) l.replies.moves.items
    (TakesForLost l.question.kind l.family (g.L.Lookup.entries_of l.list) l.question.plies false) k
