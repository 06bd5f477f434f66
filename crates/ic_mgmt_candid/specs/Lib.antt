pub mod Types
pub mod Picks
pub mod Methods
pub mod Demands
pub mod Denials
pub mod Checks
pub mod Replies
pub mod Modules
