pub mod Variants
pub mod InTurn
pub mod Whole
pub mod Cells
pub mod Posting
