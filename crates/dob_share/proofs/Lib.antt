-- The lemmas, in the order in which they are read. First statuses by bits.
mod Common  -- names of other crates and of this one's definitions, for the proofs
pub mod Words  -- how many bits of a word are set before a place, the number of a cell, and the status of a place
-- Runs of the pool.
pub mod Keeping  -- sums over a run of the pool; one cell is written: the others and the order of the pool stay
-- Items at cells.
pub mod Changing  -- when an item does not fit at a cell, and what its slot becomes
pub mod Growing  -- an item that fits never makes the cell's value worse
pub mod Applied  -- what the steps of the code give of an item at one place, and what each row of the table of items makes of its cell
pub mod Owning  -- what an item at one place is for the share's classes
-- Shares as they are opened.
pub mod Opened  -- what has been opened grows by a slot with its run; a share as it is opened, place by place
-- Cells that sum up what is known.
pub mod Learning  -- what such a cell takes next
pub mod Sums  -- such a cell still sums up after a change for the better
-- Items of settlements.
pub mod PartItems  -- items of parts, of which only the classes are listed
