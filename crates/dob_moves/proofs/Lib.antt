-- The lemmas, in the order in which they are read.
mod Common  -- names of other crates and of this one's definitions, for the proofs
-- What a move leads to.
pub mod Turns  -- when a turned setup is a position
pub mod Outcomes  -- what stands after a move is legal
pub mod Arrivals  -- what the enemy sees of a move
pub mod Shown  -- a board shows one setup
pub mod ByProfile  -- moves by the rules of a profile
pub mod Kept  -- what a move by them leads to is allowed
pub mod Mirrors  -- moves of mirror images
-- The status of a position.
pub mod Cases  -- the rules' cases exclude each other
pub mod Shared  -- profiles share statuses
pub mod Runs  -- moves that may not be there, as lists
pub mod Tables  -- the steps of a kind, ascending
pub mod Reach  -- the walk over all squares finds all moves in order
pub mod ByPlace  -- what is looked for at a place of the move order is the move there
pub mod Masked  -- what masks say of a status
pub mod Listed  -- masks give the same steps and drops
pub mod Verdicts  -- what the searches say of a position
-- Lists of moves.
pub mod Appends  -- moves appended piece by piece
pub mod ProfileMoves  -- what moves by a profile lead to, and their mirror images
pub mod MoveLists  -- the list has just the moves
pub mod MoveCounts  -- moves counted without a list
pub mod FewMoves  -- a position has at most 63 moves
pub mod Walked  -- what a walk comes to
