pub mod Ranks
pub mod Passes
pub mod Steps
