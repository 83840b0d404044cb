pub mod Entries
pub mod Steps
pub mod Tables
pub mod Chains
pub mod Walks
pub mod Records
