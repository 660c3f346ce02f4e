-- A place of a run by how many positions of profile B the run has before it.
use Rattle.std.specs.Prelude.{◌≡◌, ℕ, ◌+◌, ◌%◌, ◌<◌, true, List}
use Rattle.dob_pieces.specs.declared.piece_set.PieceSet.{PieceSet}
use Rattle.dob_pieces.specs.declared.profile.Family.{Family}
use Rattle.dob_pieces.specs.declared.profile.Profile.TheVariants.{B}
use Rattle.dob_rank.specs.Numbers.{product, digits_of, block_bases, start_of}
use Rattle.dob_rank.specs.Marks.{marks_below}
use Rattle.dob_rank.specs.Runs.{runs_in, run_size, run_start, lion_pairs}
use Rattle.dob_rank.specs.Families.{family_of, is_present}

-- a position of the family stands at that place of the run, and so many of the run's stand before it
pub record IsPresentAt (family : Family) (block run number local : ℕ) : Type 0 where
  pub local_below : local < run_size family.set block
  pub present : is_present family (run_start family.set block run + local) ≡ true
  pub before : marks_below (is_present family) (run_start family.set block run + local) ≡ marks_below (is_present family) (run_start family.set block run) + number

-- that is so in each run of those lions in a block of those numbers on the board
abbrev pub IsPlaceFor : List ℕ → ℕ → ℕ → ℕ → Type 0
IsPlaceFor ob lions number local = (set : PieceSet) (block run : ℕ) → block < product (block_bases set) → ob ≡ digits_of (block_bases set) block
    → run < runs_in set block → run % lion_pairs ≡ lions → IsPresentAt (family_of set B) block run number local

-- a spot before which each block of those numbers on the board has so many positions of profile B
pub record IsPresentIn (family : Family) (block number run local : ℕ) : Type 0 where
  pub run_below : run < runs_in family.set block
  pub local_below : local < run_size family.set block
  pub present : is_present family (run_start family.set block run + local) ≡ true
  pub before : marks_below (is_present family) (run_start family.set block run + local) ≡ marks_below (is_present family) (start_of family.set block) + number

-- where the block has more than so many
abbrev pub IsSpotFor : List ℕ → ℕ → ℕ → ℕ → Type 0
IsSpotFor ob number run local = (set : PieceSet) (block : ℕ) → block < product (block_bases set) → ob ≡ digits_of (block_bases set) block
    → marks_below (is_present (family_of set B)) (start_of set block) + number < marks_below (is_present (family_of set B)) (start_of set (block + 1))
    → IsPresentIn (family_of set B) block number run local
