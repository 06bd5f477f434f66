pub mod Kept
pub mod IsKept
pub mod Key
