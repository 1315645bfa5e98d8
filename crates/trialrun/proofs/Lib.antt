pub mod Tabled
pub mod Runs
pub mod Aside
pub mod Without
pub mod Files
pub mod Unused
pub mod Examples
pub mod Bars
