pub mod Faults
pub mod Headers
pub mod Moves
pub mod Profiles
pub mod Values
pub mod Cells
pub mod Statuses
pub mod Texts
