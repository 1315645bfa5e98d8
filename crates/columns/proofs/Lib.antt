pub mod Sets
pub mod Masks
pub mod PutBack
pub mod Remaining
pub mod Parts
pub mod Lowest
