-- The pool of counted wins, and what a run of it counts.
use Rattle.std.specs.Prelude.{◌≡◌, ℕ, zero, suc, ◌+◌, ◌<◌, ◌≤◌, ◌==◌, if◌then◌else◌, List, length, slice_index_or}

-- an entry that isn't in use yet
abbrev pub vacant : ℕ
vacant = 0

-- the sum of a number of each entry, over that many entries from the start on
abbrev pub tally : (ℕ → ℕ) → List ℕ → ℕ → ℕ → ℕ
tally number pool start zero = 0
tally number pool start (suc used) = tally number pool start used + number (slice_index_or pool (start + used) vacant)

-- the moves that an entry counts at a distance: one at its own
abbrev pub moves_at : ℕ → ℕ → ℕ
moves_at plies entry = if entry == plies then 1 else 0

-- the moves that a run counts at each distance, with that many entries in use
unfoldable pub wins_in : List ℕ → ℕ → ℕ → ℕ → ℕ
wins_in pool start used plies = tally (moves_at plies) pool start used

-- a place of the run
abbrev pub IsWithin : ℕ → ℕ → ℕ → Type 0
IsWithin start room place = (start ≤ place) × (place < start + room)

-- the run counts that distance at that place
abbrev pub IsCountedAt : List ℕ → ℕ → ℕ → ℕ → ℕ → Type 0
IsCountedAt pool start used plies place = (start ≤ place) × (place < start + used) × (slice_index_or pool place vacant ≡ plies)

-- the pool is the same but for that run
pub record ChangesRun (start room : ℕ) (old new : List ℕ) : Type 0 where
  pub whole : length new ≡ length old
  pub before : (place : ℕ) → place < start → slice_index_or new place vacant ≡ slice_index_or old place vacant
  pub behind : (place : ℕ) → start + room ≤ place → slice_index_or new place vacant ≡ slice_index_or old place vacant
