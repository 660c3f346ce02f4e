-- The marks of the runs of a block.
pub mod MixedRuns  -- the digits of a mirror image, and the marks of mixed runs
pub mod StretchLists  -- stretches of marks
pub mod FamilyMarks  -- the marks of a run's positions of a family
pub mod EvenRuns  -- half of a run, and those of its positions that are their own mirror image
