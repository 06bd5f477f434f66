pub mod Entries
pub mod Numbers
pub mod Shelves
pub mod Places
pub mod Queueing
pub mod Starts
pub mod Moves
pub mod Walks
