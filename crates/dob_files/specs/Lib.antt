pub mod Faults
pub mod Endings
pub mod Tables
pub mod Owed
pub mod Telling
pub mod Keeping
