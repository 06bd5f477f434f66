pub mod Delivery
pub mod Picks
pub mod Handing
