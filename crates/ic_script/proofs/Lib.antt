mod Passes
mod Text
mod Numbers
mod Each
pub mod Ranges
