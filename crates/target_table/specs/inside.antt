pub mod Entering
pub mod Sources
