-- The lemmas, in the order in which they are read.
mod Common  -- names of other crates and of this one's definitions, for the proofs
pub mod Starts  -- the settlements of the start: how many there are, which they are, and where each stands; which parity cells keep
pub mod Stored  -- what is stored of a history is read again
pub mod Kepts  -- what an item taken makes of a node's cells and history, and what stays kept
pub mod TakenLists  -- items taken one after the other, whose classes were looked at before
-- What the copies of edges know.
pub mod Copies  -- how many items of each settlement a list has for a class, and what the copies of an edge know
pub mod Splits  -- which settlement made an item, and what was made before
pub mod Totals  -- a class's moves have one copy each, which knows nothing at first
pub mod Learns  -- the next item of a history teaches one copy, and no other
pub mod Settles  -- one more settlement: what it leaves, and what it makes
-- Openings.
pub mod Opens  -- what is listed of a class at the opening
pub mod Found  -- each family has openings, whether they were listed or not, and those of an owner's classes are among them
-- Lawful nodes.
pub mod Rest  -- quiet nodes hold the value table
pub mod Kept  -- what copies know of the same items, and which values they can know
pub mod ValuesFollow  -- the value of a cell that sums up what is known follows
pub mod Beginnings  -- the histories of nodes at their opening
pub mod Steps  -- the next item fits its cell, and what is lawful stays so
pub mod Rises  -- falls: how far they go, and what goes before one; after the next item each settlement has a fall, and no distance exceeds the classes
pub mod Ends  -- lawful nodes that have applied all items hold the value table
