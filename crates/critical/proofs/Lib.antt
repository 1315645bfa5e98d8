pub mod RowMax
pub mod Members
pub mod TableRows
pub mod LowestRow
pub mod Raising
pub mod Sampling
pub mod Tally
