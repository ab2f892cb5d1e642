pub mod States
pub mod Tails
pub mod Pending
pub mod Advance
pub mod Machines
