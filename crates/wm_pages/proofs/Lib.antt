pub mod Over
pub mod Back
pub mod Steps
