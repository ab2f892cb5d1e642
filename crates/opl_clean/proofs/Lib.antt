pub mod Decided
pub mod Declared
pub mod Items
pub mod Kept
pub mod Lawful
