pub mod Chosen
pub mod Turns
pub mod Nexts
pub mod Weights
pub mod Covered
pub mod Posted
