pub mod Steps
pub mod Spelled
pub mod Answers
pub mod SayValues
