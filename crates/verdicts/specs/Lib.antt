pub mod Verdicts
pub mod Internal
