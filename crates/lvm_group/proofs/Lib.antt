pub mod Ahead
pub mod Gaps
pub mod Line
pub mod Places
pub mod Volumes
