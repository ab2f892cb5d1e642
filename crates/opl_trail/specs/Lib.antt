pub mod Levels
pub mod Trails
pub mod Gone
