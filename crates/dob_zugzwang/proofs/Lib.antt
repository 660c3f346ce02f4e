-- The lemmas, in the order in which they are read.
mod Common  -- names of other crates and of this one's definitions, for the proofs
pub mod Turned  -- turns of positions
pub mod Worth  -- values that are worth less than nothing together
pub mod Pairing  -- the pair of a class by its representative
pub mod Listing  -- pairs that are found class by class, as a list
pub mod Deepest  -- the deepest pair, one pair more each time
pub mod Promised  -- the laws
