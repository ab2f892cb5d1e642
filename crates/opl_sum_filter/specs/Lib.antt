pub mod Sums
pub mod Agreeing
