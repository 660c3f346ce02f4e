pub mod Values
pub mod Depths
pub mod Entries
pub mod Distances
pub mod Codes
pub mod Faults
