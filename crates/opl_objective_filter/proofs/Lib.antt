mod Sides
mod Bounds
pub mod Ends
