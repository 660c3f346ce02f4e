pub mod Format
pub mod Faults
pub mod FaultTexts
pub mod Reading
pub mod Looking
pub mod Fronts
pub mod Writing
pub mod Digests
