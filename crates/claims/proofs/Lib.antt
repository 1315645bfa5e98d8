pub mod Files
pub mod BalancedFigures
pub mod Examples
pub mod Outcomes
pub mod Calls
pub mod Claims
