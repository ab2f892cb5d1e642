pub mod Parts
pub mod Literals
pub mod Rounds
pub mod Disjunctions
pub mod Ends
