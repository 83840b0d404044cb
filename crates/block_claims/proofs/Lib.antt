pub mod Agreements
pub mod Passing
