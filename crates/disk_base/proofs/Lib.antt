pub mod Checksums
pub mod Images
pub mod Moments
pub mod Polynomials
pub mod Replaying
pub mod Stoppings
pub mod Fieldwork
pub mod Uses
