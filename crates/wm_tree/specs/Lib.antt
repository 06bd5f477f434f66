pub mod IsModule
pub mod Relay
pub mod Row
pub mod Seq
pub mod Signatures
pub mod TreeOf
