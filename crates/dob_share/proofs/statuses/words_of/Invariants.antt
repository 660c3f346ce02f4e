-- The words so far are those of the places before.
use Rattle.dob_share.proofs.Common.{◌%◌, ◌*◌, ◌<◌, ◌≡◌, ◌≤◌, AreCounted, IsStatusOf, length, opens_below, status_listed, word_of, ℕ}
use Rattle.dob_share.proofs.statuses.words_of.Given as goal

abbrev pub invariant-loop-number : goal.invariant-loop-number
invariant-loop-number l = record {
  whole : length l.words ≡ l.number;
  count : l.count ≡ opens_below l.words (l.number * 64);
  few : l.count ≤ l.number * 64;
  counted : AreCounted l.words;
  each : (place : ℕ) → place < l.number * 64 → IsStatusOf (word_of l.words place) (place % 64) (status_listed l.openings l.places l.nodes l.id place);
}
