-- The definitions.
pub mod Made  -- what is made of a position
pub mod Lists  -- what lists say, by a table
pub mod Faults  -- why nothing is made
pub mod Replies  -- the move that a list gives
