pub mod Onto
pub mod Unrolling
pub mod Posted
pub mod Laws
