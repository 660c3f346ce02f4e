-- The lemmas, in the order in which they are read.
mod Common  -- names of other crates and of this one's definitions, for the proofs
pub mod Splits  -- a text is joined from its parts in one way
pub mod Plain  -- letters are neither slash nor space
pub mod Grids  -- the text of a board stands for one board
pub mod Fronts  -- the letters of a hand
pub mod Whole  -- the text of a position is that of one setup
pub mod Verdicts  -- a text has one fault at most
pub mod Joins  -- a text that is written piece by piece
