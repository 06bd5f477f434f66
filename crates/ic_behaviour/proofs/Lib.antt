pub mod Weights
pub mod Spots
pub mod Counts
pub mod Inserts
pub mod Parts
pub mod Listings
pub mod Ties
pub mod Changes
mod Witness
pub mod Lists
pub mod Delivers
pub mod Chains
pub mod SomeTurn
pub mod RunLaws
