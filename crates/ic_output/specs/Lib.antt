pub mod Texts
pub mod StateLine
