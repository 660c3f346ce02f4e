-- Ranks of profile B, in which choices of squares have unequal weights.
pub mod Weights  -- weighted choices, forms that are allowed, and boards by the forms of their chicks
pub mod RunWeights  -- marks that a part of a place gives, and layers settled later
pub mod LionBoards  -- the squares that two lions leave
pub mod FormSquares  -- which forms the chicks of a choice may have
pub mod FamilyStarts  -- the table of the starts of blocks
pub mod Unranks  -- the position of a rank
pub mod PairSums  -- sums over pairs of squares, each with its forms
pub mod ChickForms  -- forms by squares, and what stands before a choice
pub mod PlaceNumbers  -- places of a run and their numbers, by their parts
