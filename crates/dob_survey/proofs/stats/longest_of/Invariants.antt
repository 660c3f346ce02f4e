-- What is left of the groups makes of the longest so far what all of them make of none; fewer are left each time.
use Rattle.dob_survey.proofs.Common.{◌≡◌, fold, length, longest_of, with_group}
use Rattle.dob_survey.proofs.stats.longest_of.Given as goal

abbrev pub invariant-loop-first : goal.invariant-loop-first
invariant-loop-first l = fold with_group l.longest l.left ≡ longest_of l.groups

abbrev pub decreases-loop-first : goal.decreases-loop-first
decreases-loop-first l = length l.left
