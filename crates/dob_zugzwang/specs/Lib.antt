-- The definitions.
pub mod Zugzwangs  -- positions in which whoever has to move would rather not
pub mod Pairs  -- pairs of classes in which that is so
pub mod Counts  -- how many pairs there are, and the deepest one
pub mod Laws  -- the laws that src/laws.rt promises
