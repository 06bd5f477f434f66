pub mod Trace
pub mod Headline
pub mod Printed
