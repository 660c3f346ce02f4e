-- Sorting keeps how often each class stands there, and the list that counts the moves into the class is the list of its
-- predecessors.
use Rattle.dob_unmove.proofs.Common.{ℕ, IsNonDecreasingBy-from_sort}
use Rattle.dob_unmove.proofs.Edges.{sorted_answer, RepresentsClass-class_setup}
use Rattle.dob_unmove.proofs.predecessors.back_into.Goals as goal

pub returns : goal.returns
returns c =
    let family = c.args.classes.now.family in
    let both = sorted_answer family c.args.class _ _ _ (RepresentsClass-class_setup family c.args.class c.requires)
    c.in_ok-numbers.ensures c.sort_unstable.ensures.permutation (IsNonDecreasingBy-from_sort (λ (x : ℕ). x) _ c.sort_unstable.ensures.sorted) c.requires in
    record { counts = both.0; list = both.1 }
