pub mod TrialRuns
pub mod FileRuns
pub mod Bars
