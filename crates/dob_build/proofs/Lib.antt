-- The lemmas, in the order in which they are read.
mod Common  -- names of other crates and of this one's definitions, for the proofs
pub mod Building  -- the table that was built, the file that is filled by it, and why there is none
