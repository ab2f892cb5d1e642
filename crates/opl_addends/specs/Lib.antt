pub mod Addends
pub mod Demands
pub mod Laws
pub mod Sums
pub mod Rounds
pub mod Making
pub mod Apart
pub mod AddendsFilters
