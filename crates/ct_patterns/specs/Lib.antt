pub mod Views
pub mod Meets
pub mod Met
