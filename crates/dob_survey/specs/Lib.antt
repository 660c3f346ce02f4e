pub mod Checks
pub mod Puzzles
pub mod Zugzwangs
pub mod Migrations
pub mod Stats
pub mod Reaches
