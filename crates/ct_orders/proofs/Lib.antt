pub mod Parts
pub mod Courses
pub mod Stepping
pub mod WaysRun
