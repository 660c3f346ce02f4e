-- What stands on each square below the index may stand there.
use Rattle.dob_pieces.proofs.Common.{◌<◌, ◌≡◌, true, ℕ, may_stand, at}
use Rattle.dob_pieces.proofs.setup.Setup.is_allowed.Given as goal

abbrev pub invariant-loop-index : goal.invariant-loop-index
invariant-loop-index l = (k : ℕ) → k < l.index → may_stand l.profile k (at l.self k) ≡ true
