pub mod Answers
pub mod Limits
pub mod Buffers
pub mod Places
