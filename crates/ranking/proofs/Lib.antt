pub mod Ranked
pub mod Walking
