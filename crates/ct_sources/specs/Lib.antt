pub mod Files
pub mod IsSourceOf
pub mod Named
