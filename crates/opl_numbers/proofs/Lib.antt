pub mod Alone
pub mod Constants
pub mod Folds
pub mod Measures
pub mod Products
pub mod Rows
pub mod Small
pub mod Sums
