pub mod Magnitudes
pub mod Between
pub mod Answers
