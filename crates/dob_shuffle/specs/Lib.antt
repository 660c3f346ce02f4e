pub mod Shuffles
pub mod Laws
