pub mod Numbers
pub mod Cents
pub mod Lines
pub mod Rendered
pub mod Lengths
