pub mod Eligibles
pub mod Chains
mod Puts
pub mod Handings
