pub mod Pieces
pub mod LeftOut
pub mod Narrow
