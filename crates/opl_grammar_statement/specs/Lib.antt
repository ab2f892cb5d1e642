pub mod Blocks
pub mod StatementNests
