pub mod Negation
pub mod Parts
pub mod Carrying
pub mod Trying
pub mod Opening
pub mod Looking
mod Shapes
pub mod Made
pub mod Ends
