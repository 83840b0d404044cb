pub mod Counts
pub mod Frames
pub mod Joins
pub mod LyingApart
pub mod Places
