-- The lemmas.
mod Common  -- names of other crates and of this one's definitions, for the proofs
pub mod Found  -- what was found of each class, in the order of the classes, and the values that the nodes show
