mod Rows
pub mod BitLaws
pub mod ChecksumLaws
pub mod Base32Laws
pub mod TextLaws
pub mod PrincipalLaws
pub mod ReadingLaws
pub mod OrderLaws
pub mod PlaceLaws
pub mod CanisterIdLaws
