pub mod Slots
pub mod Links
pub mod Endpoints
pub mod Keeps
pub mod TokenMoves
