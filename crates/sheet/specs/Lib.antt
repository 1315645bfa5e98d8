pub mod Sheets
pub mod Internal
