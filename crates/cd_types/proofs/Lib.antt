pub mod FaultLemmas
pub mod EntryLemmas
pub mod LabelSum
pub mod PrimitiveCodes
