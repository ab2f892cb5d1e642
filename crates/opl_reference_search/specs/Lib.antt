pub mod Tasks
pub mod Steps
pub mod Sound
pub mod Made
pub mod Whole
pub mod Leaves
