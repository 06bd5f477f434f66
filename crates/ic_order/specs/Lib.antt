pub mod Ways
pub mod Seen
pub mod Order
pub mod Sorted
