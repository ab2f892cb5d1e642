pub mod Comparisons
pub mod Differences
pub mod Places
pub mod Ranks
pub mod Runs
pub mod Sorts
