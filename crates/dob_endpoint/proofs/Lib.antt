-- The lemmas, in the order in which they are read.
mod Common  -- names of other crates and of this one's definitions, for the proofs
pub mod Places  -- what stands where in a list, and in one that was changed
pub mod Links  -- the counts of links, after one link changed
pub mod Keeping  -- what links, seats and endpoints keep, through each step
