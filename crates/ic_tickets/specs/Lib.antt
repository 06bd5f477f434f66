pub mod Rule
pub mod Tickets
