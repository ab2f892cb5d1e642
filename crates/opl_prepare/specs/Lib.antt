pub mod Data
pub mod Positions
pub mod Prepared
pub mod Subject
