pub mod TrialFigures
pub mod FileFigures
