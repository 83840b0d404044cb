pub mod Entry
pub mod Header
pub mod Gpt
pub mod inside
