pub mod CrewClose
pub mod CrewOpen
pub mod CrewRunners
pub mod CrewSizes
pub mod Faults
pub mod Seating
