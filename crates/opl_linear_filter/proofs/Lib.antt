mod Plain
pub mod Constants
mod Building
mod Adding
mod Listing
pub mod Weights
mod Counts
mod Equations
mod Values
pub mod Comparing
pub mod Ends
mod Which
mod Normal
