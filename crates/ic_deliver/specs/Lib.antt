pub mod Giving
pub mod Delivered
