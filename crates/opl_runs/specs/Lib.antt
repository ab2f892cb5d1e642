pub mod Runs
pub mod Items
pub mod Scopes
pub mod Laws
