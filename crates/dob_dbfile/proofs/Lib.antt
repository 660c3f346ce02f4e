-- The lemmas, in the order in which they are read.
mod Common  -- names of other crates and of this one's definitions, for the proofs
-- What the bytes of a file are.
mod CodeBytes  -- records as the bytes of codes and of values
mod FileBytes  -- a file, part after part
-- Reading.
mod Pieces  -- what is read piece after piece, up to the end of a file
mod Headers  -- what the tests say of the first bytes
pub mod Places  -- at most one fault holds
mod HeldBytes  -- what the bytes of a file and its first bytes show
mod Verdicts  -- what the steps say of the whole stream
pub mod Written  -- the file of a table passes
pub mod Looked  -- what was read by place, and the records in a table's file
-- Writing.
mod Parts  -- where writing stops in a whole
