pub mod Parts
pub mod Queues
pub mod Batches
pub mod Runs
