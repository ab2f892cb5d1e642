pub mod Laws
pub mod Members
pub mod Queues
pub mod Values
pub mod Waits
pub mod Watching
