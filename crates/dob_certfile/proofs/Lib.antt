-- The lemmas, in the order in which they are read.
mod Common  -- names of other crates and of this one's definitions, for the proofs
pub mod Fields  -- steps of reading, and numbers
pub mod Lists  -- entries that are read and written
pub mod Fronts  -- the front that is read and written
pub mod Files  -- the whole file that is read and written
