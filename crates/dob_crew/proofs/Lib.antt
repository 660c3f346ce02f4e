-- The lemmas, in the order in which they are read.
mod Common  -- names of other crates and of this one's definitions, for the proofs
pub mod Seated  -- the endpoints of a crew, seated, taken apart and closed one by one
pub mod CrewRunners  -- the runners of a crew, before and after their turns
