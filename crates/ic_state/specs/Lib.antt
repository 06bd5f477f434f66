pub mod Seen
pub mod IsCanister
pub mod IsWorld
