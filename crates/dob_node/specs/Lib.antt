pub mod Outboxes
pub mod NodeViews
pub mod Levels
pub mod Nodes
pub mod NodeSteps
