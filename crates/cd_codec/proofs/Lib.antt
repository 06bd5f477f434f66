pub mod Views
pub mod Loops
pub mod Tables
pub mod Fixed
pub mod PlainLaws
pub mod ValueTakes
pub mod ValueAgain
pub mod CodeLaws
pub mod HeaderLaws
pub mod HeaderAnswers
pub mod ValueSpelled
pub mod HeaderSpelled
pub mod Written
pub mod MessageSpelled
mod Rows
