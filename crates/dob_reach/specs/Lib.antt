-- The definitions.
pub mod Distances  -- which numbers a relation reaches from one, and in how many steps at least
pub mod Counts  -- how many numbers have a property
pub mod Leads  -- which classes of a family lead to which others
pub mod Marks  -- marks of numbers, a bit each
pub mod Fronts  -- what the classes of a round lead to, and what a round marks and lists
pub mod Rounds  -- what is marked before a round, and what a round marks, of any steps among numbers
pub mod Searches  -- what is known before each round of a search
pub mod Reached  -- what a search from a class finds
pub mod Values  -- how many of the classes that are reached have which value by a table
pub mod Codes  -- how many of the classes that are reached have which value by a table, by the values' codes
pub mod Plays  -- plays of moves, and the laws that src/laws.rt promises
