pub mod Becomes
pub mod Counts
pub mod Failing
pub mod Files
pub mod Held
pub mod Written
