pub mod Reading
pub mod Rows
pub mod RecordLaws
pub mod ChunkLaws
