-- How many classes of a family stand before a position's rank, before a block, before a run of it, and before a place of the run.
use Rattle.std.specs.Prelude.{◌+◌, ℕ}
use Rattle.dob_pieces.specs.declared.profile.Family.{Family}
use Rattle.dob_pieces.specs.declared.setup.Setup.{Setup}
use Rattle.dob_rank.specs.Families.{is_marked}
use Rattle.dob_rank.specs.Marks.{marks_below}
use Rattle.dob_rank.specs.Numbers.{rank_of_set, start_of}
use Rattle.dob_rank.specs.Runs.{run_start}

abbrev pub classes_to_setup : Family → Setup → ℕ
classes_to_setup family s = marks_below (is_marked family) (rank_of_set family.set s)

abbrev pub classes_to_block : Family → ℕ → ℕ
classes_to_block family block = marks_below (is_marked family) (start_of family.set block)

abbrev pub classes_to_run : Family → ℕ → ℕ → ℕ
classes_to_run family block run = marks_below (is_marked family) (run_start family.set block run)

abbrev pub classes_to_place : Family → ℕ → ℕ → ℕ → ℕ
classes_to_place family block run place = marks_below (is_marked family) (run_start family.set block run + place)
