-- The lemmas, in the order in which they are read.
-- The rules.
pub mod Firsts  -- the first move of a list
pub mod Searches  -- what the searches for a move say of a position
pub mod Appending  -- moves appended piece by piece
pub mod AloneSteps  -- the node stays lawful, and makes one step more; where it stops, and the values that it shows at its end
pub mod AloneOpens  -- the node is lawful as it is opened
