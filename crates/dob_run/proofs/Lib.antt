-- The lemmas, in the order in which they are read.
mod Common  -- names of other crates and of this one's definitions, for the proofs
pub mod Needed  -- enough batches were cut for what the classes have to tell
pub mod CrewEnds  -- a crew that was run, and what it leaves
pub mod CrewStopped  -- what the board's words say of the runners of a stopped crew, and that one at its end holds the value table
