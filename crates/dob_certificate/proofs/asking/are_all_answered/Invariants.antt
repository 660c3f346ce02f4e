-- The moves so far lead to what is found to be won.
use Rattle.dob_certificate.proofs.Common.{◌<◌, true, ℕ}
use Rattle.dob_moves.specs.Shown.{setup_on}
use Rattle.dob_certificate.specs.Asked.{FindsWon}
use Rattle.dob_certificate.proofs.Walked.{LeadsAt}
use Rattle.dob_certificate.proofs.asking.are_all_answered.Given as goal

abbrev pub invariant-loop-place : goal.invariant-loop-place
invariant-loop-place g l = (k : ℕ) → k < l.place → LeadsAt l.family.profile (setup_on l.position.board) l.moves.moves.items
    (FindsWon l.question.kind l.family (g.L.Lookup.entries_of l.list) l.question.plies true) k
