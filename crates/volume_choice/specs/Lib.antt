pub mod Chosen
pub mod Unread
pub mod inside
