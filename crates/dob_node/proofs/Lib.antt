-- The lemmas, in the order in which they are read.
mod Common  -- names of other crates and of this one's definitions, for the proofs
-- A node with its outboxes.
pub mod Opens  -- a node as it is opened: what its share has
pub mod Sounds  -- a node stays sound
pub mod Nodes  -- what a node has, whatever has failed of it, and the values of its own classes
pub mod TakenLists  -- items that a node takes one after the other, whose history may have had other room before
pub mod Sends  -- empty outboxes, their room, and what one settlement more adds to them
-- Worlds of shares and histories.
pub mod ItemChanges  -- what an item that a share takes changes
pub mod ShownValues  -- the values that classes show, and lists of them
