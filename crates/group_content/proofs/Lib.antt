pub mod Alike
pub mod Owning
mod Seeing
pub mod Splitting
