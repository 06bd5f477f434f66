mod SendLaws
pub mod Counts
mod Printed
mod WalkLaws
mod BodyLaws
mod Follows
pub mod Exits
mod Runs
mod Unprinted
mod PieceBounds
mod Streams
pub mod Keeps
mod Gathering
mod Asked
