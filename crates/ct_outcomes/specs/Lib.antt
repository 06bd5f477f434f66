pub mod Types
pub mod Standings
pub mod Arguments
pub mod Meets
pub mod Answers
