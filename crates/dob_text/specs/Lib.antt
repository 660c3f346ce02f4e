pub mod Letters
pub mod MoveText
pub mod PositionText
pub mod Drawings
pub mod Backgrounds
pub mod Pictures
pub mod Faults
pub mod Readings
