-- The ranks so far are as they should be.
use Rattle.dobutsu_web.proofs.Common.{◌<◌, ℕ, IsRankAt}
use Rattle.dobutsu_web.proofs.ranked.are_ranks.Given as goal

abbrev pub invariant-loop-place : goal.invariant-loop-place
invariant-loop-place l = (k : ℕ) → k < l.place → IsRankAt l.listed.family l.listed.ranks.now k
