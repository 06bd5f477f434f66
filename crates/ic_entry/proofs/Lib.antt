pub mod Enters
pub mod Stages
pub mod Stores
pub mod Installs
pub mod Listens
