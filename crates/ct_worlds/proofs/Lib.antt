pub mod Codes
pub mod Moves
