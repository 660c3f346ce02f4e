-- The lemmas.
pub mod TurnedCrews  -- what a crew's runners leave after some turns, and what went over its links
