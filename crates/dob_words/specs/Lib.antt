pub mod Forms
pub mod Words
pub mod Lines
pub mod Shapes
pub mod Readings
