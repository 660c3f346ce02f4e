-- The lemmas, in the order in which they are read.
-- The words and the rule.
pub mod Names  -- what the proofs cite of definitions and of lemmas below
pub mod Places  -- which word is which, and what a write to one leaves of the others
pub mod Kept  -- a step of one node's seat keeps the rule
-- Posts, looks and takes.
pub mod Steps  -- what the steps of a seat make of the words
pub mod Allowed  -- what the steps ask of the table, and what they show
pub mod Done  -- what a seat holds after its steps; a take is a look and an event
-- The token and the halt.
pub mod Passing  -- the token's word, a look at it, and a pass
pub mod Halting  -- a look at the halt, a failure, and the announcement of the end
-- The start and the end of a board.
pub mod Once  -- the events of a log lead to one ring
pub mod Starts  -- the start of a board, and how the view of all nodes is split
pub mod Ends  -- how seats come back, and what is read at the end
