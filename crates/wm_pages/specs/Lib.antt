pub mod Over
pub mod Ranges
pub mod Paged
