pub mod Items
pub mod Resources
