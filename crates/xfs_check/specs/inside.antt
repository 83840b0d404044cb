pub mod Claiming
pub mod Steps
pub mod Reading
pub mod Grouping
pub mod Behind
