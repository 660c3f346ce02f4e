pub mod Layout
pub mod Index
