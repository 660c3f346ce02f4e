-- The definitions.
pub mod Parts  -- the parts of a table's classes that are looked at by themselves
pub mod Watching  -- at which class something is reported to a watch, and how many classes
