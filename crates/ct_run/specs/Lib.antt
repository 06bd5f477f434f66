pub mod Called
pub mod Created
pub mod Statements
pub mod Runs
pub mod Inside
