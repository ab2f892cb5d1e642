pub mod Contexts
pub mod Pieces
