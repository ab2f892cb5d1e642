pub mod Commands
pub mod Examples
pub mod Laws
pub mod Readings
pub mod Requests
