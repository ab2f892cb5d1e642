pub mod Courses
pub mod Met
pub mod Visits
