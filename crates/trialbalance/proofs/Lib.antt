pub mod Parts
pub mod Calls
pub mod Unused
pub mod Examples
