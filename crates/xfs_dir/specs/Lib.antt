pub mod Block
pub mod Item
pub mod Laws
pub mod Scan
pub mod Short
pub mod ShortScan
pub mod inside
