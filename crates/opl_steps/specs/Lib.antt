pub mod Tasks
pub mod Steps
pub mod Picked
pub mod Costs
pub mod Made
pub mod Laws
