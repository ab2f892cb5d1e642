pub mod Laws
pub mod OfSort
pub mod Positions
pub mod Visible
