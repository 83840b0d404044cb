pub mod Signature
pub mod Slot
pub mod Chain
pub mod Mbr
pub mod Record
pub mod inside
