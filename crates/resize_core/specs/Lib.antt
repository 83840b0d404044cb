pub mod Contents
pub mod Growth
pub mod Summary
pub mod Same
pub mod Resizing
pub mod inside
