mod Calls
mod Steps
pub mod One
pub mod Walks
pub mod Acts
pub mod Hearings
