pub mod Grouped
pub mod Laws
pub mod Standing
pub mod inside
