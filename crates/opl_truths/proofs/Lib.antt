pub mod Depths
pub mod Known
pub mod Truths
