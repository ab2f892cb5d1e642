pub mod Declares
pub mod First
pub mod Laws
pub mod Parts
pub mod Places
