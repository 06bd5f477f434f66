pub mod Ways
pub mod Sweeping
pub mod ToManagement
pub mod Taken
pub mod Ending
pub mod Changes
