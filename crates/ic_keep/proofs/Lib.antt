pub mod Stays
pub mod Alike
pub mod Unique
pub mod Makes
pub mod Entering
pub mod Turns
pub mod Keys
