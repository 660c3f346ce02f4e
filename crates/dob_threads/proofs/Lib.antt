-- The lemmas.
mod Common  -- names of other crates and of this one's definitions, for the proofs
pub mod Threaded  -- runners whose threads are started and ended one by one
