pub mod Executes
pub mod Activations
pub mod Asking
pub mod Halts
pub mod Callees
pub mod Firsts
pub mod Backtrace
pub mod UnderWay
