-- The lemmas, in the order in which they are read.
mod Common  -- names of other crates and of this one's definitions, for the proofs
pub mod Places  -- where the numbers of an index stand
pub mod Walked  -- the representatives before a place of a run, by its lions and by a walk
pub mod Kept  -- what is written stays as more is written
pub mod Read  -- what an index says is read from it
