pub mod Stacks
pub mod Stored
