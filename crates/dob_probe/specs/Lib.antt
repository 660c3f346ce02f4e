pub mod Lines
pub mod Said
pub mod Checks
pub mod Sums
pub mod ValuedMoves
pub mod Walks
pub mod Outlines  -- positions that are alike
pub mod Puzzles
pub mod SingleMoves
pub mod Statistics
pub mod Slots
pub mod Faults
pub mod Laws
