pub mod Lists
pub mod Steps
pub mod Opens
pub mod Draws
pub mod Closes
