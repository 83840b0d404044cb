pub mod Deciding
pub mod Working
