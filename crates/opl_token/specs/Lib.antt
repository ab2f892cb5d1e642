pub mod Lexeme
pub mod Comment
pub mod Scan
pub mod Longest
pub mod Laws
pub mod Kinds
