pub mod Made
pub mod MomentSets
pub mod Values
pub mod Labels
