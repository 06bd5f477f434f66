pub mod Loops
mod Rows
pub mod Starts
pub mod Meant
pub mod Ties
pub mod Cases
pub mod PlaceLists
pub mod Plains
pub mod Records
pub mod Values
pub mod Whole
