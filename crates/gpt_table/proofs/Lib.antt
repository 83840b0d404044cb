pub mod Entries
pub mod Headers
pub mod Puts
pub mod Readings
pub mod Tables
pub mod Written
