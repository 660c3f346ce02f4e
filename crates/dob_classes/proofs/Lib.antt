-- The lemmas, in the order in which they are read, a folder for each topic.
mod Common  -- names of other crates and of this one's definitions, for the proofs
pub mod BitPlaced  -- boards with a piece more, seen from either side
pub mod OfFamilies  -- the classes of a family and their representatives
pub mod MarksOfRuns  -- the marks of the runs of a block
pub mod Counting  -- classes before blocks, runs and places
pub mod Tables  -- the tables that the classes of a block keep
