pub mod Values
pub mod Played
pub mod ValuedMoves
pub mod Objects
pub mod Tallies
pub mod Progress
