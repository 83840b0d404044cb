pub mod Collection
pub mod Division
pub mod Powers
pub mod Telling
pub mod Plannable
