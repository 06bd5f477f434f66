pub mod Steps
pub mod NameLemmas
pub mod MethodLemmas
pub mod VisitLemmas
pub mod EveryCheck
pub mod EntryLemmas
