mod Beaten
mod Changes
mod Crowds
pub mod Fitting
pub mod Holding
mod Lists
mod OwnKinds
mod Made
mod Noting
mod Placing
pub mod Resting
mod SameMembers
