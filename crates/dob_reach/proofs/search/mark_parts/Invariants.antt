-- What the parts so far lead to is marked.
use Rattle.dob_reach.proofs.Common.{◌++◌, AreMarked, KeepsMarks, List, outcomes_of, take, ℕ}
use Rattle.dob_reach.proofs.search.mark_parts.Given as goal

abbrev pub invariant-loop-part : goal.invariant-loop-part
invariant-loop-part l = record {
  keeps : KeepsMarks l.initial.marks.words.items l.marks.words.items;
  marked : (before done : List ℕ) → AreMarked before l.initial.marks.words.items done l.initial.next.items
      → AreMarked before l.marks.words.items (done ++ outcomes_of (take l.part-index l.parts)) l.next.items;
}
