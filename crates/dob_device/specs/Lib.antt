pub mod Devices
pub mod Sinks
pub mod Memory
