-- Walks over the places of a run whose lions both stand on column b.
use Rattle.std.specs.Prelude.{◌≡◌, ℕ, ◌<◌, ◌≤◌, Bool}
use Rattle.dob_pieces.specs.declared.profile.Family.{Family}
use Rattle.dob_classes.specs.declared.class_walks.MixedRun.{MixedRun}
use Rattle.dob_classes.specs.declared.class_walks.StretchCursor.{StretchCursor}
use Rattle.dob_classes.specs.FamilyRuns.{is_there, run_size_in, local_marks_in}
use Rattle.dob_rank.specs.Marks.{marks_below}
use Rattle.dob_rank.specs.Runs.{run_size}
use Rattle.dob_classes.specs.Stretches.{local_marks}

-- how many representatives of the family stand before the run's position of that number
abbrev pub marks_before : MixedRun → ℕ → ℕ
marks_before run number = marks_below (local_marks_in run.family run.block run.run) number

-- the run's positions of the family from one number up to another are all representatives or all not
pub record IsStretchIn (family : Family) (block run start next : ℕ) (on : Bool) : Type 0 where
  pub further : start ≤ next
  pub within : next ≤ run_size_in family block run
  pub same : (number : ℕ) → start ≤ number → number < next → local_marks_in family block run number ≡ on

-- so many positions of the family stand before the place, and the places from it up to the end are marked or not
pub record IsWalk (run : MixedRun) (walk : StretchCursor) : Type 0 where
  pub upto : walk.place ≤ run_size run.family.set run.block
  pub number_is : walk.number ≡ marks_below (is_there run.family run.block run.run) walk.place
  pub same : (k : ℕ) → walk.place ≤ k → k < walk.end → local_marks run.family.set run.block run.run k ≡ walk.is_marked
