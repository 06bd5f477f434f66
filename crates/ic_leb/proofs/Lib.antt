mod Rows
pub mod Values
pub mod Sizes
pub mod Numbers
pub mod Places
pub mod Magnitudes
pub mod Widths
pub mod Readers
pub mod Found
pub mod Shortest
mod OneByte
