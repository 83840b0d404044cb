pub mod Finishing
pub mod Putting
pub mod Stopping
