pub mod Laid
pub mod Judged
pub mod Reasons
pub mod Placed
pub mod Lying
