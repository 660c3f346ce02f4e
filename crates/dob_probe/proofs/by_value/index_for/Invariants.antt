-- No move of the list so far is worse.
use Rattle.dob_probe.proofs.Common.{◌<◌, get_or, ℕ, IsBetter, ValuedMove}
use Rattle.dob_probe.proofs.by_value.index_for.Given as goal

abbrev pub invariant-loop-index : goal.invariant-loop-index
invariant-loop-index l = (k : ℕ) (d : ValuedMove) → k < l.index → ¬ IsBetter l.value (get_or l.list k d).value
