-- The walk stands at the place of the entry before, and the entries up to there are written.
use Rattle.dob_index.proofs.Common.{◌*◌, ◌+◌, ◌<◌, ◌≡◌, ◌≤◌, ◌⊎◌, get_or, length, ℕ, classes_to_place, classes_to_run, IsWalk, marks_before, entries_in}
use Rattle.dob_index.proofs.Common.{entry_places}
use Rattle.dob_index.proofs.write.write_entries.Given as goal

abbrev pub invariant-loop-entry : goal.invariant-loop-entry
invariant-loop-entry l = record {
  walk : IsWalk l.run l.walk;
  place : l.walk.place ≤ l.entry * entry_places;
  count : l.count ≡ marks_before l.run l.walk.number;
  size : length l.words ≡ length l.fn.words;
  entries : (k : ℕ) → k < l.entry → classes_to_run l.run.family l.run.block l.run.run + get_or l.words (l.at + k) 0
      ≡ classes_to_place l.run.family l.run.block l.run.run (k * entry_places);
  others : (i : ℕ) → (i < l.at) ⊎ (l.at + entries_in l.run.family.set l.run.block ≤ i) → get_or l.words i 0 ≡ get_or l.fn.words i 0;
}
