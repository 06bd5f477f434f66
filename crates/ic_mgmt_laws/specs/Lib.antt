pub mod KeepsCalls
pub mod Moves
pub mod Rows
pub mod Manage
pub mod Managed
