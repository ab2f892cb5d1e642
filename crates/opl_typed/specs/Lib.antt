pub mod Laws
pub mod Relation
