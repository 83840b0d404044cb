pub mod Searching
pub mod Telling
pub mod Reading
pub mod Targets
pub mod Judging
pub mod ReadingChunks
