-- The lemmas, in the order in which they are read. First arithmetic.
pub mod Sums  -- sums of the values of a function below a number
pub mod Counts  -- counters as sums of counts, and what events change of them
pub mod Quiet  -- in an announceable state no batch is in flight
pub mod Kept  -- the events keep lawful states lawful
