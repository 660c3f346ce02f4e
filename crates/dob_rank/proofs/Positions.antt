-- Ranks of the positions of a set.
pub mod Digits  -- a position's digits, and back
pub mod Made  -- digits make a position
pub mod Keys  -- keys and digits have one order
pub mod Numbering  -- ranks number the positions in their order
pub mod Loops  -- what the code's loops keep
pub mod Blocks  -- blocks are small
pub mod BlockStarts  -- the table of the blocks' starts
pub mod Sets  -- a position and its set
pub mod Found  -- what the code's lists and numbers are
