pub mod SameStore
pub mod Counting
pub mod Refusing
