-- The marks of a run as stretches of places that are all marked or all not.
use Rattle.std.specs.Prelude.{◌≡◌, ℕ, ◌+◌, ◌/◌, ◌<◌, ◌≤◌, ◌⊎◌, Bool, List, length, slice_index_or, drop}
use Rattle.dob_pieces.specs.declared.piece_set.PieceSet.{PieceSet}
use Rattle.dob_classes.specs.declared.stretches.Stretch.{Stretch}
use Rattle.dob_rank.specs.Numbers.{product}
use Rattle.dob_rank.specs.Marks.{marks_below, marked}
use Rattle.dob_rank.specs.Runs.{run_start}

-- the marks of a run, by the place in it
abbrev pub local_marks : PieceSet → ℕ → ℕ → ℕ → Bool
local_marks set block run place = marked set (run_start set block run + place)

-- the entry of the places from its start up to an end
pub record IsStretch (mark : ℕ → Bool) (end : ℕ) (entry : Stretch) : Type 0 where
  pub upto : entry.start ≤ end
  pub before_is : entry.before ≡ marks_below mark entry.start
  pub same : (place : ℕ) → entry.start ≤ place → place < end → mark place ≡ entry.is_marked

-- the entries of all places below a number
pub record AreStretches (mark : ℕ → Bool) (upto : ℕ) (list : List Stretch) : Type 0 where
  pub some : 0 < upto → 0 < length list
  pub first_is : (other : Stretch) → 0 < length list → (slice_index_or list 0 other).start ≡ 0
  pub each : (k : ℕ) (other : Stretch) → k + 1 < length list → IsStretch mark (slice_index_or list (k + 1) other).start (slice_index_or list k other)
  pub last : (k : ℕ) (other : Stretch) → k + 1 ≡ length list → IsStretch mark upto (slice_index_or list k other)

-- the last entry's places are marked or not
abbrev pub EndsWith : List Stretch → Bool → Type 0
EndsWith list on = (k : ℕ) (other : Stretch) → k + 1 ≡ length list → (slice_index_or list k other).is_marked ≡ on

-- the entries of the places below one, and the marks of the places from there to an end
pub record IsGrowing (mark : ℕ → Bool) (upto end count : ℕ) (on last : Bool) (list : List Stretch) : Type 0 where
  pub are : AreStretches mark upto list
  pub last_is : 0 < upto → EndsWith list last
  pub further : upto ≤ end
  pub counted : count ≡ marks_below mark upto
  pub same : (k : ℕ) → upto ≤ k → k < end → mark k ≡ on

-- the product of the bases after the first digit in which two numbers differ
pub record IsWidth (bases : List ℕ) (local other width : ℕ) : Type 0 where
  pub digits : ℕ
  pub width_is : width ≡ product (drop digits bases)
  pub some : 0 < width
  pub apart : (local ≡ other) ⊎ (local / width ≡ other / width → ⊥)
  pub alone : local ≡ other → width ≡ 1
