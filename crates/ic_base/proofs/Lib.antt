pub mod Reversed
pub mod Steps
pub mod Exact
pub mod Loops
