pub mod Critical
pub mod Reaching
pub mod Exceeding
pub mod Parts
pub mod Bars
