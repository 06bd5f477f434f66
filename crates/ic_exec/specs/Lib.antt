pub mod Executed
pub mod Cleanups
