pub mod Width
pub mod Value
pub mod Spells
pub mod Faults
pub mod Magnitude
pub mod Spelling
pub mod Reading
