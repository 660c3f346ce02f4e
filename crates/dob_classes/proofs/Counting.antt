-- Classes before blocks, runs and places.
pub mod RunNumbers  -- how many positions of a family a run has before a place, and in all
pub mod ClassesBefore  -- the classes before a run and before a place of one
pub mod WalkMarks  -- what a step of a walk over a run's places passes
pub mod RunOfClass  -- the run in which a representative stands
