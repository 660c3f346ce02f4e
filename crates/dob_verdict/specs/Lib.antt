pub mod Certificates
pub mod Headers
pub mod Replying
