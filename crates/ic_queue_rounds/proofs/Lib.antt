pub mod Methods
pub mod Steady
pub mod Draws
pub mod Fronts
pub mod Passes
pub mod Ends
pub mod Picks
pub mod Roundings
