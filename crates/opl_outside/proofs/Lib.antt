pub mod Becomes
pub mod HeldLemmas
pub mod Transfer
