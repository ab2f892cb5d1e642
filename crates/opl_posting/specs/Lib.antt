pub mod Posts
pub mod Aims
pub mod Walks
pub mod Items
