pub mod Splits
pub mod Keeps
pub mod Opens
pub mod Receives
pub mod Sends
pub mod PhaseKeeps
pub mod Sets
