pub mod Objectives
pub mod Pairs
pub mod Beginnings
