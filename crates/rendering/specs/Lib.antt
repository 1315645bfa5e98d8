pub mod Reports
pub mod Renderings
pub mod Internal
