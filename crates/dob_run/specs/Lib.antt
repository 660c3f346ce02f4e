pub mod Built
pub mod Faults
pub mod Finished
pub mod BuildEnd
pub mod CrewTurns
pub mod CrewStops
pub mod Builds
