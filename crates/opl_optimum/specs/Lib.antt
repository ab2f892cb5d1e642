pub mod Best
pub mod Clean
pub mod Goals
pub mod Laws
pub mod Optima
