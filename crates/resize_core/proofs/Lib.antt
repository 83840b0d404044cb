pub mod AlikeGrowth
pub mod Found
pub mod Gathered
pub mod Carriable
pub mod ResizeLaw
pub mod Sameness
pub mod WorkLemmas
pub mod Volumes
