pub mod Complete
pub mod Lawful
pub mod Names
pub mod Parts
pub mod Sound
pub mod Steps
