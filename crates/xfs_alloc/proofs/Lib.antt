pub mod Faults
pub mod Runs
pub mod Same
pub mod Claimed
pub mod Spaces
