-- The lemmas, in the order in which they are read.
mod Common  -- names of other crates and of this one's definitions, for the proofs
pub mod OneAfter  -- the texts of items, one more at a time
pub mod CountLines  -- lines of counts, one after the other
pub mod Tallies  -- the tally of a list from those of its parts
