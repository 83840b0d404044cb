pub mod Claims
pub mod Blocks
pub mod Orders
pub mod Levels
pub mod Trees
pub mod TreeLaws
pub mod Forks
