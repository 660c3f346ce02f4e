-- The lemmas, in the order in which they are read. First entries and lines, then the check of a table.
mod Common  -- names of other crates and of this one's definitions, for the proofs
pub mod InOrder  -- the moves in their order
pub mod Entries  -- each entry is that of a class, and a position has one
pub mod Ways  -- lines as they grow, and where they break off
pub mod Relations  -- what holds by one relation of positions and values holds by another
pub mod Best  -- by the value table lines are the best lines, and none breaks off
pub mod Kept  -- what is kept of a list of values, as the list grows
pub mod Following  -- the one value that follows from the successors' values
pub mod Verdicts  -- the first fault among the verdicts of all classes
pub mod ByValue  -- moves with their values, best first, as the list grows
pub mod Slotted  -- what is counted of each code, part by part, and the groups that are there
pub mod Walked  -- places in the order of a walk, and their classes
pub mod Alike  -- outlines of positions, and puzzles that are alike
pub mod OnlyMoves  -- the only move to a value, and the puzzles of the places so far
