pub mod FileTexts
pub mod Lengths
pub mod Inputs
pub mod Examples
