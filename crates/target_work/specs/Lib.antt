pub mod Works
pub mod inside
