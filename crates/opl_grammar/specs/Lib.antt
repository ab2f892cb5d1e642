pub mod Declarations
pub mod Input
pub mod Items
pub mod Just
pub mod Model
pub mod Rules
pub mod Search
pub mod Tables
