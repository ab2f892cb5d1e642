pub mod Declared
pub mod Fits
pub mod Keys
pub mod OfKind
pub mod Laws
pub mod Typed
