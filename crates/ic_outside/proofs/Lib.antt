mod Rows
pub mod PieceLaws
pub mod LimitLaws
pub mod KnownLaws
mod SentLaws
mod ScanLaws
mod AnswerLaws
mod InsideLaws
mod Seen
