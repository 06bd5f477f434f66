mod InPlace
pub mod Keeps
