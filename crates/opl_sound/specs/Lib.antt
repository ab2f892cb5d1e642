pub mod Measures
pub mod Cores
pub mod Ground
