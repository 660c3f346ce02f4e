pub mod Bounds
pub mod Faults
pub mod Tokens
pub mod Rings
pub mod Laws
