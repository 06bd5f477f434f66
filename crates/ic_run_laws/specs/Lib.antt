pub mod EntryKeeps
pub mod Advances
pub mod TrapKeeps
pub mod AllDone
pub mod RulesKeep
pub mod System
