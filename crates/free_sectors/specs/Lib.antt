pub mod Free
pub mod inside
