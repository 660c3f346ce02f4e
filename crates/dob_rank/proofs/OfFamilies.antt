-- Families: the positions of a set that a profile allows.
pub mod Present  -- a family's positions among the ranks of its set
pub mod FamilyOrder  -- ranks in a family are below its size, and give its positions
pub mod RunPresent  -- which places of a run are of the family
pub mod PlaceCounts  -- how many positions a run has before each of its places
pub mod FamilyRuns  -- how many positions of a family a run has, and how many stand before it
pub mod FamilyRanks  -- a place of a block and its number among the positions of the family
pub mod ClassBounds  -- how many positions and classes a set has at most
