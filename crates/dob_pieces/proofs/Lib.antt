-- The lemmas, in the order in which they are read.
mod Common  -- names of other crates and of this one's definitions, for the proofs
pub mod Results  -- what std doesn't say of `Result`
pub mod Lists  -- lists made piece by piece, and their order
pub mod Zips  -- lists side by side, and one for each number of a range
pub mod Elements  -- what stands where in a list, also after more things and after one was exchanged
-- Boards.
pub mod Boards  -- boards read, turned, mirrored and written
pub mod Legality  -- what the tests of a position show
pub mod Symmetries  -- turned and mirrored twice, and one after the other
pub mod Allowed  -- what a profile allows, square by square, and in the mirror
-- Masks.
pub mod MaskBits  -- sets of squares as bits
pub mod MaskWalks  -- walks over the squares of a mask
pub mod Attacks  -- who attacks a square
pub mod Targets  -- the tables of steps are the steps of the kinds
pub mod CellPlanes  -- several masks in one word
pub mod OwnKinds  -- the mover's piece on a square
-- Boards as sets of squares.
pub mod BoardPlanes  -- sets of squares in one pass over a setup's cells
pub mod BoardChanges  -- sets of squares when one square changes
pub mod ImageMasks  -- masks of mirror images
