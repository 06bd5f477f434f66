mod Said
mod Moves
pub mod Once
