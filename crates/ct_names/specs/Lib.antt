pub mod Words
pub mod Roles
pub mod Exchange
pub mod Printed
