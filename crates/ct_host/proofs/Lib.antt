pub mod Ends
pub mod Inputs
pub mod Parts
pub mod Tests
