pub mod Judged
pub mod Arrays
pub mod Passed
pub mod Taken
pub mod Inputs
pub mod Examples
