pub mod Span
pub mod Arithmetic
pub mod Family
pub mod Laws
