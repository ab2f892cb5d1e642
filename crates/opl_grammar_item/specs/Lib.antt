pub mod Blocks
pub mod ItemNests
