-- The definitions.
pub mod Ascending  -- the order of entries
pub mod Listed  -- the entry of a position's class
pub mod Lost  -- what a list says to be lost, and what an entry of it has to show
pub mod Held  -- what a list says not to be lost, and what an entry of it has to show
pub mod Walks  -- where the moves of a position lead
pub mod Asked  -- what a list of either kind is asked of a position
pub mod Lists  -- which entries a list of either kind supports
pub mod Claims  -- what is claimed of a position, and how lists show it
pub mod Refusals  -- why a certificate is refused
