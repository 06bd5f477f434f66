pub mod Left
pub mod NoUses
mod Rows
pub mod Steps
pub mod WordTable
