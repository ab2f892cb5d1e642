mod Lists
mod Onto
mod Folds
pub mod Forms
mod Visits
mod Instances
mod Posted
