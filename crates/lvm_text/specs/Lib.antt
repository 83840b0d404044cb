pub mod Tree
pub mod Tokens
pub mod Grammar
pub mod Faults
pub mod Written
pub mod Text
pub mod inside
