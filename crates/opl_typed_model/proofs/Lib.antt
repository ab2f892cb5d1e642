pub mod Decls
mod FirstDecls
mod FirstItems
mod Items
pub mod Lawful
mod Places
mod Resources
