-- The tables that the classes of a block keep.
pub mod Pushed  -- a table with one entry more
pub mod PlaceTables  -- the tables of the places of a block grow and are read
pub mod RunTables  -- the tables and the index of runs of a family grow and are read
pub mod FamilyBlocks  -- the blocks of a family
