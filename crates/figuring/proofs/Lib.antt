pub mod Scan
pub mod PutBackCounts
pub mod NeededMarks
pub mod PassOrder
pub mod Tally
pub mod Midway
pub mod AllFigures
