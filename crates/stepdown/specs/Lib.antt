pub mod Runs
pub mod Refusals
pub mod Answers
pub mod Stepping
