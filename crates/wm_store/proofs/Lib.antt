pub mod MeaningBytes
pub mod MeaningRows
pub mod MeaningTable
pub mod Words
