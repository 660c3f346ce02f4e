-- The lemmas, in the order in which they are read, a folder for each topic.
mod Common  -- names of other crates and of this one's definitions, for the proofs
pub mod Arithmetic  -- arithmetic and lists
pub mod Boards  -- boards as layers, choices of squares and forms, and masks of layers
pub mod Positions  -- ranks of the positions of a set
pub mod Marked  -- marked ranks, those of the earlier of two mirror images
pub mod InRuns  -- runs of ranks with the same hands and lions
pub mod OfFamilies  -- families: the positions of a set that a profile allows
pub mod ProfileB  -- ranks of profile B, in which choices of squares have unequal weights
