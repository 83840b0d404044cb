pub mod Free
pub mod FreeSpace
pub mod Laws
pub mod inside
