pub mod Rightness
