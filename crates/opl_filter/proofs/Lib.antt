pub mod Removals
pub mod Runs
pub mod Unmentioned
mod Adding
pub mod Mentioned
mod Trying
mod Outcomes
pub mod Refuting
pub mod Agreeing
