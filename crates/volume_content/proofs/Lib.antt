pub mod Firsts
pub mod Stays
pub mod Alike
pub mod Elsewhere
