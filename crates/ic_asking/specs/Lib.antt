pub mod Asking
pub mod Beside
