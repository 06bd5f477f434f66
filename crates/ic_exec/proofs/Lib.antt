pub mod Numbers
pub mod Applies
pub mod Rooms
pub mod CallRuns
pub mod AnswerRuns
pub mod Handles
pub mod Burned
pub mod Conserves
