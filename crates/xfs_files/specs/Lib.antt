pub mod Directory
pub mod File
pub mod Laws
pub mod inside
