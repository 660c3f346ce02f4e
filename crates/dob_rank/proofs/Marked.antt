-- Marked ranks, those of the earlier of two mirror images.
pub mod Marks  -- marked ranks are representatives
pub mod Words  -- marks below a place
pub mod Representatives  -- one representative and one number a class
