pub mod Graphs
pub mod Rosters
pub mod Follows
pub mod ClassRows
pub mod Bounds
pub mod Outcomes
