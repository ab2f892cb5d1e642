pub mod Forms
pub mod Options
pub mod Range
pub mod Holds
pub mod Solutions
pub mod Laws
pub mod Sound
