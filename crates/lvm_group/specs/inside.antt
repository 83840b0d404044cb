pub mod Names
pub mod Line
pub mod Parts
pub mod Laying
pub mod Judging
