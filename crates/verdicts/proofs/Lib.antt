pub mod Counted
pub mod Bytes
