pub mod Patterns
pub mod Once
pub mod Texts
pub mod Kept
pub mod Found
