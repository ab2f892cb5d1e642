pub mod Courses
pub mod Leads
pub mod Steps
