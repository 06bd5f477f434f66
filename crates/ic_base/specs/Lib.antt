pub mod Reader
pub mod Spelling
pub mod Exact
pub mod Gives
