pub mod Ending
pub mod Ended
pub mod Text
pub mod Texts
