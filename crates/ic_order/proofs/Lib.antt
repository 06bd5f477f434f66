mod Firsts
pub mod Ways
pub mod Same
pub mod Matched
pub mod Managed
pub mod Comes
pub mod Places
pub mod Sorts
mod Rows
