pub mod Fields
pub mod Laws
pub mod Structs
pub mod Trees
pub mod Typed
pub mod Walk
pub mod Whole
