pub mod Closing
pub mod Queues
pub mod Turns
pub mod Values
pub mod Waking
