pub mod LevelRows
pub mod OneStep
pub mod Traces
pub mod AllSteps
pub mod FullRuns
