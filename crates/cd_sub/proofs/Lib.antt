mod LabelLemmas
mod PartLemmas
pub mod OrderLemmas
mod ReflexiveLemmas
mod GreatestLemmas
mod PartFreeLemmas
mod RuleLemmas
mod KeepLemmas
mod PlaceLemmas
mod ArrangeLemmas
mod SearchLemmas
mod DecidedLemmas
