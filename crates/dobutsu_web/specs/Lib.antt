pub mod Asked
pub mod Rows
pub mod Values
pub mod Steps
pub mod Texts
pub mod Headers
pub mod Ranked
pub mod Certified
