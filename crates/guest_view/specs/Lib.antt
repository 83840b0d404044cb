pub mod Contents
pub mod FaultTexts
pub mod Guests
pub mod Laws
pub mod Partitions
pub mod inside
