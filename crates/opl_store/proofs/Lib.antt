pub mod Picked
pub mod Ends
pub mod Families
pub mod Blocks
pub mod New
