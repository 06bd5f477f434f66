pub mod Entered
pub mod Query
pub mod Inspection
pub mod Placed
pub mod Installed
