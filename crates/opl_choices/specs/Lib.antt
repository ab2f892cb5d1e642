pub mod Answered
pub mod Branches
pub mod Places
