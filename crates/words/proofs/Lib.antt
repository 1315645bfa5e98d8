pub mod Words
pub mod Fields
pub mod Shapes
pub mod Signed
