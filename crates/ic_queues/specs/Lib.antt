pub mod Queued
pub mod Lines
pub mod Shelved
pub mod Walking
pub mod Moving
pub mod InLists
