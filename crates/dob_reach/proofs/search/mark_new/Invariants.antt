-- The numbers so far are marked.
use Rattle.dob_reach.proofs.Common.{◌++◌, AreMarked, KeepsMarks, List, take, ℕ}
use Rattle.dob_reach.proofs.search.mark_new.Given as goal

abbrev pub invariant-loop-outcome : goal.invariant-loop-outcome
invariant-loop-outcome l = record {
  keeps : KeepsMarks l.initial.marks.words.items l.marks.words.items;
  marked : (before done : List ℕ) → AreMarked before l.initial.marks.words.items done l.initial.next.items
      → AreMarked before l.marks.words.items (done ++ take l.outcome-index l.outcomes) l.next.items;
}
