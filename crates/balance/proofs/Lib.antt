pub mod Examples
pub mod Balanced
pub mod Ranks
