pub mod Lessening
pub mod Failed
pub mod Meaning
pub mod Bounds
