-- The numbers of the places so far stand in the first places of the room.
use Rattle.dobutsu_c.proofs.Common.{◌≡◌, ◌≤◌, get_or, length, take, ℕ}
use Rattle.dob_shuffle.specs.Shuffles.{place_of}
use Rattle.dobutsu_c.specs.Shuffled.{AreOfPlaces}
use Rattle.dobutsu_c.proofs.shuffled.dobutsu_shuffled.Given as goal

abbrev pub invariant-loop-at : goal.invariant-loop-at
invariant-loop-at l = record {
  size : length l.numbers ≡ length l.initial.numbers;
  few : l.written ≤ length l.numbers;
  from : l.first ≤ l.at;
  drawn : AreOfPlaces (place_of l.shuffle) l.count l.first l.at (take l.written l.numbers);
  others : (i e : ℕ) → l.written ≤ i → get_or l.numbers i e ≡ get_or l.initial.numbers i e;
}
