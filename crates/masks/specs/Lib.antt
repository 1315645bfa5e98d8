pub mod Internal
pub mod Marks
