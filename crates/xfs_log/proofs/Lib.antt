pub mod Sectors
pub mod Finds
pub mod Wholes
pub mod Excluded
