-- The lemmas, in the order in which they are read.
pub mod Sums  -- sums over the blocks before one
pub mod Images  -- numbers and their images
pub mod Segmentation  -- lists in segments
