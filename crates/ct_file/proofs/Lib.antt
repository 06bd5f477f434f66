pub mod Words
pub mod Exact
pub mod Leaves
pub mod Rules
pub mod Whole
pub mod Loops
pub mod WholeTokens
pub mod Files
