pub mod Geometry
pub mod Super
pub mod Superblock
pub mod Headers
pub mod Laws
pub mod Text
pub mod inside
