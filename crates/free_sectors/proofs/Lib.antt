pub mod Adding
pub mod Sets
pub mod Standing
pub mod Unused
pub mod Members
pub mod Free
