pub mod Ready
mod Deliveries
