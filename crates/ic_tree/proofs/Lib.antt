pub mod Forks
pub mod Order
pub mod Requests
