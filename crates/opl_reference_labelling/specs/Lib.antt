pub mod Outcomes
pub mod Labelling
