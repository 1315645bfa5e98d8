pub mod Better
pub mod Branches
pub mod Pruning
pub mod Walking
pub mod Beginning
pub mod PutBackValue
pub mod FirstBest
pub mod BarOf
