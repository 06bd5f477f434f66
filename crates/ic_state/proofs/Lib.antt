pub mod Worlds
pub mod InPlace
