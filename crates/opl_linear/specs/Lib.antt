pub mod Linear
pub mod Trimming
pub mod Alternating
pub mod Roots
pub mod Forms
pub mod Laws
