pub mod Lists
pub mod ReadFits
pub mod Relay
pub mod Sections
pub mod Shortest
pub mod Sizes
pub mod Spelled
pub mod Whole
