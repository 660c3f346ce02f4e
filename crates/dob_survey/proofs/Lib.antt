-- The lemmas, in the order in which they are read.
mod Common  -- names of other crates and of this one's definitions, for the proofs
pub mod Checked  -- a fault of checking a table is one of checking its file
pub mod Puzzling  -- the lines of puzzles, and which classes these and pairs are of
pub mod Migrated  -- the faults of reading a file, of making the other one and of keeping it are those of migrating
pub mod Levels  -- the lines of distances and of values, one more at a time
pub mod Statistics  -- the longest win and loss of a table are among its groups
