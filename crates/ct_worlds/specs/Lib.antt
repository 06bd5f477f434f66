pub mod Worlds
pub mod Lawful
