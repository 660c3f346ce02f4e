-- The classes of a family and their representatives.
pub mod Counted  -- lists without repeats, and counts
pub mod ClassesTo  -- names for how many classes stand before a position, a block, a run and a place
pub mod FamilyNumbers  -- class numbers of a family are marks below
pub mod FamilyRepresentatives  -- one representative and one number a class of a family
