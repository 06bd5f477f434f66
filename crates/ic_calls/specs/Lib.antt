pub mod Received
pub mod Closed
pub mod Sent
pub mod Texts
pub mod Changes
