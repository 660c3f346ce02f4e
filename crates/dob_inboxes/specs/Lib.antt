pub mod Rows
pub mod InboxOpen
pub mod InboxClose
