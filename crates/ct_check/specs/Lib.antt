pub mod Filling
pub mod Moving
pub mod State
pub mod Rows
pub mod Naming
pub mod Values
pub mod Holds
pub mod Answer
