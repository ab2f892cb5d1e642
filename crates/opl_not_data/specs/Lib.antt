pub mod First
pub mod Laws
pub mod Mentions
pub mod Parts
