-- The lemmas, in the order in which they are read.
mod Common  -- names of other crates and of this one's definitions, for the proofs
pub mod Streams  -- a room that fills from a stream, and a stream that is cut
pub mod Sinks  -- what sinks have received
