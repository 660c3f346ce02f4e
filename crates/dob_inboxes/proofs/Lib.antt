-- The lemmas, in the order in which they are read.
mod Common  -- names of other crates and of this one's definitions, for the proofs
pub mod Rowed  -- what stands where in rows, and in the row that a slot makes
pub mod Inboxes  -- the inboxes of a crew, laid and ended one by one
