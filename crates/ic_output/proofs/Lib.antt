pub mod NoFloat
pub mod Adding
