pub mod Lists
pub mod Ranges
pub mod Keeping
pub mod Orders
pub mod Further
pub mod Complete
pub mod Going
pub mod Downward
