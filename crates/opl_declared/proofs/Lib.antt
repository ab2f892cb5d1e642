pub mod Arrays
pub mod TermNames
pub mod TermPlaces
