-- Runs of ranks with the same hands and lions.
pub mod Lions  -- what the lions' columns say
pub mod RunPlaces  -- a place is a run and a place in it
pub mod RunMarks  -- the marks of runs
pub mod RunSums  -- the marks of a block as a sum over runs
pub mod EvenChoices  -- choices of squares that are their own mirror image
pub mod EvenForms  -- placements that are
pub mod EvenChicks  -- those of chicks, for each two lions on column b
pub mod EvenCode  -- the table of them
pub mod DigitParts  -- the digits of a place, part by part, and those that the positions of a run have in common
