pub mod Calls
pub mod Examples
pub mod Accepted
pub mod Counted
