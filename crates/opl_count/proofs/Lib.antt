mod Notices
mod Implied
mod Prices
mod Settling
mod Read
pub mod Known
mod Both
mod Shapes
mod Ranges
mod Readings
mod Tying
mod Over
mod Made
