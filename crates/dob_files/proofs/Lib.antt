-- The lemmas, in the order in which they are read.
mod Common  -- names of other crates and of this one's definitions, for the proofs
pub mod Kept  -- files that are filled and kept
pub mod Endings  -- lines or a fault that were told are what is owed
pub mod TableFaults  -- the faults of a table are those of the file it was read from, and by a value table's file it is that table
pub mod EachLine  -- the answers to lines, one more at a time, and what was told of them
