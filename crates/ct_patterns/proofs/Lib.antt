pub mod Layers
pub mod Leaves
pub mod Opened
pub mod Fields
pub mod Matches
mod Rows
