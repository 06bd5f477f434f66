pub mod Unique
mod Measure
pub mod ByFuel
pub mod Through
pub mod Total
mod Rows
pub mod Operands
pub mod Modules
pub mod Moves
pub mod Branches
pub mod Blocks
pub mod Calls
pub mod Table
pub mod Arms
pub mod Rowed
pub mod Growth
pub mod Progress
pub mod NeverStuck
pub mod Beginnings
mod Stays
pub mod Kept
pub mod AlwaysKept
pub mod Narrow
pub mod Entries
pub mod Paths
