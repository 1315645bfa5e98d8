pub mod Handed
pub mod Mapped
pub mod Layouts
pub mod Calls
