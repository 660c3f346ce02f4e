-- The lemmas, in the order in which they are read.
mod Common  -- names of other crates and of this one's definitions, for the proofs
-- The walk over the ways to take the last move back.
pub mod Runs  -- ways taken in turn
pub mod Undone  -- the ways are those of the moves that lead there
pub mod Listed  -- the list has each way that can undo the last move
pub mod Once  -- and no way twice
pub mod Kept  -- taking a move back keeps the lions and the other pieces
-- Counts of the moves that lead into a class.
pub mod Counting  -- what all ways add counts the moves
pub mod InOneWalk  -- and so does one walk
pub mod Gathering  -- and so do the functions that gather classes
pub mod Classes  -- classes have one number each
pub mod Ascending  -- ascending lists are distinguished by their counts
pub mod Edges  -- the predecessors are that one list
-- Ways that are skipped.
pub mod Threats  -- who could catch the enemy lion before the move
pub mod Images  -- the classes that a position and its mirror image add
pub mod Gathered  -- what the ways add, one list after the other
pub mod Dead  -- ways that lead back to no open representative
pub mod Standing  -- which ways a piece can have made
pub mod WayMasks  -- the sets of the ways
pub mod OwnImages  -- positions that are their own mirror images
pub mod BitUndone  -- and when a move is taken back
