pub mod Shelves  -- what a map has after one name is given other bytes
pub mod FirstLine  -- the first line of bytes, by the place of their first line feed, and in pieces
