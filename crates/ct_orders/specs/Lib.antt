pub mod Ways
pub mod Verdicts
pub mod Course
