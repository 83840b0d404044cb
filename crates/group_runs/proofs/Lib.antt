mod Spans
mod Members
pub mod Lying
