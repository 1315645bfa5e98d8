pub mod Accepted
pub mod Spoiled
pub mod Calls
pub mod TableRuns
pub mod StepByStep
pub mod Bars
