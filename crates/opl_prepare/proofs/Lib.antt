pub mod Accepted
pub mod PositionLemmas
pub mod PreparingLemmas
pub mod Single
pub mod Some
pub mod Stops
