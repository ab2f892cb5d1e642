pub mod Truths
pub mod Refuted
pub mod Places
pub mod Notices
pub mod Going
pub mod Plain
mod Shapes
pub mod Reading
pub mod Turning
pub mod Made
pub mod Ends
pub mod Seeing
