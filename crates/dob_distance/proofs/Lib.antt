-- The lemmas, in the order in which they are read.
mod Common  -- names of other crates and of this one's definitions, for the proofs
pub mod Distances  -- a win, or a loss, has one distance
pub mod Depths  -- won and lost at different depths
pub mod Outlooks  -- what an entry says, and what positions with the same outlook share
pub mod Images  -- mirror images have one value
pub mod Parity  -- a distance says whether it is a win
