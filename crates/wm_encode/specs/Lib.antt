pub mod Fits
pub mod Instructions
pub mod Parts
pub mod Ranges
pub mod Types
pub mod Values
pub mod Whole
