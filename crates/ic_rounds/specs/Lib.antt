pub mod Taking
pub mod Dealing
pub mod Slots
pub mod HandledSlots
pub mod InPlace
pub mod Workers
