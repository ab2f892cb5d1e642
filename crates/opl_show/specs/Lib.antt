pub mod Courses
pub mod Parts
pub mod Readings
pub mod Texts
