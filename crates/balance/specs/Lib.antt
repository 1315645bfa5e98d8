pub mod Balance
pub mod Examples
