pub mod Capacity
pub mod Ground
pub mod Means
pub mod Searched
pub mod Standing
