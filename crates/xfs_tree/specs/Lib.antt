pub mod Form
pub mod Records
pub mod Block
pub mod Marks
pub mod Tree
pub mod Fork
pub mod Laws
pub mod inside
