pub mod Forms
pub mod Laws
pub mod Made
pub mod Measures
pub mod Nodes
pub mod Parts
pub mod Worth
