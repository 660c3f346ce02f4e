-- The digits so far are those of the statuses listed.
use Rattle.dob_share.proofs.Common.{◌+◌, catches, opens, status_listed, tries}
use Rattle.dob_share.proofs.Words.{AreDigits}
use Rattle.dob_share.proofs.statuses.word_at.Given as goal

abbrev pub invariant-loop-k : goal.invariant-loop-k
invariant-loop-k l = record {
  opens_are : AreDigits opens (λ k. status_listed l.openings l.places l.nodes l.id (l.first + k)) l.k l.opens;
  caught_are : AreDigits catches (λ k. status_listed l.openings l.places l.nodes l.id (l.first + k)) l.k l.caught;
  tried_are : AreDigits tries (λ k. status_listed l.openings l.places l.nodes l.id (l.first + k)) l.k l.tried;
}
