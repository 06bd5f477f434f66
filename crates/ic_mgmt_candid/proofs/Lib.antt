pub mod Typed
pub mod Fields
pub mod Fronts
pub mod Given
pub mod Told
pub mod ModuleLemmas
