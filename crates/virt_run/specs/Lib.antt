pub mod Lines
pub mod Ran
pub mod Words
pub mod inside
