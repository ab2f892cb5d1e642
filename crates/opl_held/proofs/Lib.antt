mod Answers
mod Data
mod Drawn
mod Forms
mod Gathering
mod Made
mod Refused
mod Sources
mod Values
mod Variables
mod Weighing
pub mod Places
