pub mod Scan
pub mod Machine
pub mod Ahead
