pub mod Orders
pub mod Runs
pub mod Laws
