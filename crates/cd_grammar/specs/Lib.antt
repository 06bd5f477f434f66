pub mod Words
pub mod File
pub mod Grammar
pub mod Read
pub mod Fits
