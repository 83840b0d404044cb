pub mod Slots
pub mod Entries
pub mod Planned
pub mod inside
