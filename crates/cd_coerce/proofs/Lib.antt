pub mod ShapeLemmas
pub mod Found
pub mod Only
pub mod Deep
pub mod Typed
pub mod StepLemmas
pub mod TableLemmas
pub mod DecidesLemmas
mod FloatLemmas
mod ArgumentLemmas
mod MessageLemmas
mod ResultLemmas
mod FindLemmas
pub mod LoopLemmas
pub mod PartsLemmas
mod ValueLemmas
mod RuleLemmas
mod Exists
mod CountLemmas
