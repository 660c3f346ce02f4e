-- Arithmetic and lists.
pub mod MixedRadix  -- numbers and their digits
pub mod Order  -- the lexicographic order of lists
