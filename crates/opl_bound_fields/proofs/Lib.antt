pub mod Structs
pub mod Told
