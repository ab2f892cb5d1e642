pub mod Crowds
pub mod Engines
pub mod Laws
pub mod OwnFilters
pub mod Members
pub mod Resting
pub mod States
