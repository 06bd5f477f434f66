pub mod Interleaves
pub mod Meanings
pub mod Reached
pub mod Holding
pub mod Cases
pub mod Answers
