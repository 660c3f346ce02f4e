-- Sorting keeps how often each class stands there, and the list that counts the moves into the class is the list of its
-- predecessors.
use Rattle.std.proofs.Common.{ℕ}
use Rattle.std.proofs.lemmas.List.Sorted.{IsNonDecreasingBy-from_sort}
use Rattle.dob_unmove.proofs.Edges.{sorted_answer}
use Rattle.dob_reference.proofs.back.back_into.Goals as goal

pub gather-requires : goal.gather-requires
gather-requires c = (c.args.class, (c.class_at.ensures.representative, c.class_at.ensures.class))

pub returns : goal.returns
returns c =
    let both = sorted_answer c.args.classes.now.family c.args.class _ _ _ (c.class_at.ensures.representative, c.class_at.ensures.class)
    c.in_ok-numbers.ensures c.sort_unstable.ensures.permutation (IsNonDecreasingBy-from_sort (λ (x : ℕ). x) _ c.sort_unstable.ensures.sorted) c.requires in
    record { counts = both.0; list = both.1 }
