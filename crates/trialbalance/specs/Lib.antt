pub mod TrialBalance
pub mod FileBalance
pub mod Examples
