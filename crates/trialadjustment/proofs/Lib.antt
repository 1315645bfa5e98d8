pub mod Calls
pub mod Trials
pub mod Unused
pub mod Examples
