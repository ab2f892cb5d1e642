pub mod Told
pub mod Visitors
