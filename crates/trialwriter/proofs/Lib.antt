pub mod Stored
pub mod FileWords
pub mod Written
pub mod Again
pub mod RoundTrip
pub mod Writes
pub mod Unused
pub mod Examples
