pub mod Seen
pub mod Parts
pub mod Valid
pub mod Frame
pub mod Laws
pub mod Volume
pub mod inside
