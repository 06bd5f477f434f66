pub mod Types
pub mod Printed
pub mod Pieces
pub mod ReadPlain
