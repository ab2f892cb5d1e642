pub mod Coming
pub mod Weights
pub mod Covered
pub mod Laws
