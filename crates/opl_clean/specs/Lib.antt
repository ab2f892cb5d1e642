pub mod Declared
pub mod Items
pub mod Laws
pub mod Mentions
