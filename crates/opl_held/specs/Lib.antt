pub mod Arrays
pub mod Gathered
pub mod Keys
pub mod Laws
pub mod Outcomes
pub mod Signs
pub mod Sourced
pub mod Worth
