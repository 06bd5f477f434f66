mod Rows
mod Steps
mod Stacks
mod Lists
pub mod NestingTree
pub mod Marks
pub mod Writing
pub mod KnownPoints
pub mod Needs
pub mod Past
pub mod Sound
pub mod Answered
pub mod FlatTree
pub mod StopsTree
pub mod LocalLemmas
