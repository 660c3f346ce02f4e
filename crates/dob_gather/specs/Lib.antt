-- The definitions.
pub mod Owners  -- what the nodes of a build show of the classes
pub mod Gathering  -- what the digest of a table's file has taken
pub mod Scans  -- what is found of some of the classes, one after the other
