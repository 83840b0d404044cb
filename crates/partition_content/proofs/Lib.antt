pub mod Finding
pub mod Unique
pub mod Staying
