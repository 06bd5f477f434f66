pub mod Values
pub mod Lists
pub mod Held
pub mod Inside
pub mod Fits
pub mod Meaning
pub mod MeaningLaws
