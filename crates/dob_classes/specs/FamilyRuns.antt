-- The positions of a family in a run of its set, numbered among themselves.
use Rattle.std.specs.Prelude.{◌≡◌, ℕ, ◌+◌, ◌<◌, Bool, true}
use Rattle.dob_pieces.specs.declared.profile.Family.{Family}
use Rattle.dob_rank.specs.Numbers.{product, block_bases}
use Rattle.dob_rank.specs.Marks.{marks_below}
use Rattle.dob_rank.specs.ClassRows.{marked_place}
use Rattle.dob_rank.specs.Families.{is_present, is_marked}
use Rattle.dob_rank.specs.Runs.{runs_in, run_size, run_start, IsInRun}
use Rattle.dob_classes.specs.Stretches.{local_marks}

-- a position of the family stands at that place of the run
abbrev pub is_there : Family → ℕ → ℕ → ℕ → Bool
is_there family block run place = is_present family (run_start family.set block run + place)

-- how many of the run's positions are of the family
abbrev pub run_size_in : Family → ℕ → ℕ → ℕ
run_size_in family block run = marks_below (is_there family block run) (run_size family.set block)

-- the place of the run before which so many of them stand
abbrev pub place_of_number : Family → ℕ → ℕ → ℕ → ℕ
place_of_number family block run number = marked_place (is_there family block run) number (run_size family.set block)

-- the marks of the run, by the numbers of its positions of the family
abbrev pub local_marks_in : Family → ℕ → ℕ → ℕ → Bool
local_marks_in family block run number = local_marks family.set block run (place_of_number family block run number)

-- how many representatives of the family stand before the run's position of that number
abbrev pub classes_before : Family → ℕ → ℕ → ℕ → ℕ
classes_before family block run number =
    marks_below (is_marked family) (run_start family.set block run) + marks_below (local_marks_in family block run) number

-- the run has more positions of the family than that
pub record IsInRunOf (family : Family) (block run number : ℕ) : Type 0 where
  pub block_below : block < product (block_bases family.set)
  pub run_below : run < runs_in family.set block
  pub number_below : number < run_size_in family block run

-- at that place stands the run's position of that number
pub record IsNumbered (family : Family) (block run number place : ℕ) : Type 0 where
  pub in_run : IsInRun family.set block run place
  pub there : is_there family block run place ≡ true
  pub number_is : marks_below (is_there family block run) place ≡ number
