pub mod Places
pub mod Meets
pub mod IsPart
