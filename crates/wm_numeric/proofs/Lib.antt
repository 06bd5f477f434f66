pub mod Ranges
pub mod Rotations
pub mod Vectors
