pub mod Words
pub mod HexWord
pub mod Steps
pub mod Paths
pub mod Command
pub mod Line
pub mod CauseText
