pub mod Rising
pub mod Joining
pub mod Cutting
pub mod Marked
pub mod Masked
