pub mod Inboxes
pub mod Ends
pub mod Rooms
