-- The lemmas, in the order in which they are read. First lists, nodes and lanes.
mod Common  -- names of other crates and of this one's definitions, for the proofs
pub mod Firsts  -- first elements, lists that have some, and calls that can't have failed
pub mod InPlace  -- nodes and lanes where they stand, after a write too, and what they show
pub mod Counters  -- the detector's lists after an event, and what they show
-- What any events keep.
pub mod Kept  -- a world stays lawful and linked and keeps its falls, the next item always fits, and a ring that matches still does
pub mod Promise  -- the promise of the whole, at the start, after any events and after a stop
-- One event in a world that stands.
pub mod Stood  -- the world stands after an event that could happen and happened; a settlement that is expanded
pub mod Moves  -- items that a node applies, its own or those of a batch
pub mod Made  -- own items applied, and batches taken and posted: the event could happen, it happened, and all stands in its place; or why its node stops
-- Runs from the start to the end.
pub mod Driven  -- runs and rounds, event by event, and the end where no event of a round can happen
