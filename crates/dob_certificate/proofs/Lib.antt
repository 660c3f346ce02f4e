-- The lemmas, in the order in which they are read.
mod Common  -- names of other crates and of this one's definitions, for the proofs
pub mod Orders  -- entries by ascending class
pub mod Walked  -- moves gone through one by one
pub mod Firsts  -- the first entry that is not supported
pub mod Bounds  -- what supported lists say of positions is so
pub mod Cases  -- what lists say, by the position's status
pub mod Exact  -- a claim that is proved holds
