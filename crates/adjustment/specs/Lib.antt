pub mod Adjusted
pub mod Passes
pub mod Answers
pub mod Examples
