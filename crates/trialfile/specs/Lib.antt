pub mod Files
pub mod Examples
