pub mod Method
pub mod Bars
