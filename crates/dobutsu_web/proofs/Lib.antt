-- The lemmas, in the order in which they are read.
mod Common  -- names of other crates and of this one's definitions, for the proofs
mod Ranks  -- what ranks stand for
mod Answered  -- what the lists of a certificate show of a position
