pub mod Deciding
pub mod OneRow
pub mod Once
mod Keying
