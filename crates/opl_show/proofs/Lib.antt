pub mod Courses
pub mod Examples
pub mod Parts
pub mod Texts
pub mod Weights
