pub mod MaskScan
pub mod Parts
pub mod Walks
pub mod SetSizes
pub mod Marks
pub mod Those
pub mod Marking
