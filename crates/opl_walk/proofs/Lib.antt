pub mod Telling
pub mod Visitors
