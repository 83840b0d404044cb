pub mod EndLemmas
pub mod Steps
