pub mod collections
