pub mod Declarations
pub mod Laws
pub mod Models
pub mod Uses
