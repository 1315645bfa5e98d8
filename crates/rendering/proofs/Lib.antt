pub mod ReportLines
pub mod AsideLines
pub mod Values
pub mod PrintableFiles
pub mod FileTexts
pub mod Lengths
pub mod Rendered
pub mod Inputs
