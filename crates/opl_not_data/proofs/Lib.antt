pub mod First
pub mod Known
pub mod Outcomes
pub mod Parameters
pub mod Truths
