-- The lemmas, in the order in which they are read.
mod Common  -- names of other crates and of this one's definitions, for the proofs
pub mod Counts  -- counts of numbers with a property: put together, of a list's items, and below a bound
pub mod Rounds  -- what a round makes of what was marked, of any steps among numbers
pub mod Stepping  -- what a class's moves lead to, and what is found of parts of the classes, one after the other
pub mod Marking  -- numbers marked one after the other
pub mod Searched  -- the search of a family's classes
pub mod Valued  -- the classes that are reached by their values, one class more each time
pub mod Coded  -- the same by the codes of the values
pub mod Played  -- plays of moves and the classes that they come to
