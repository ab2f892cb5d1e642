pub mod Undo
pub mod Marks
pub mod Levels
pub mod Words
pub mod Counts
