pub mod InQueues
pub mod Drawing
pub mod Passing
pub mod Rounds
pub mod Picking
