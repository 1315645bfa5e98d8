pub mod Stepdown
pub mod FullRuns
pub mod Tables
pub mod Examples
pub mod SetBy
