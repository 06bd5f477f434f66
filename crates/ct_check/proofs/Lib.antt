pub mod Failing
pub mod Loops
pub mod Names
pub mod Spelling
