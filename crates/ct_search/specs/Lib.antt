pub mod Meaning
pub mod Visits
pub mod Search
pub mod Index
