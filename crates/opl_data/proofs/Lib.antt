pub mod Levels
pub mod Trees
pub mod Shapes
pub mod Values
pub mod Parts
pub mod Closing
pub mod Files
pub mod TreeLaws
