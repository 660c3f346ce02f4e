-- The lemmas, in the order in which they are read.
mod Common  -- names of other crates and of this one's definitions, for the proofs
-- Tables of values.
pub mod NextValues  -- the value at one depth more
pub mod Tables  -- tables during the sweeps
pub mod ClassNumbers  -- each position has one entry
pub mod Rows  -- tables in the order of the classes
pub mod Listed  -- values that are given for each class
-- The graph of a sweep.
pub mod Successors  -- the successors of a class
pub mod Bounds  -- no distance is above the number of classes
pub mod Nodes  -- the graph's lists as they grow
-- Tables that pass the check.
pub mod Consistency  -- a consistent table is the value table
