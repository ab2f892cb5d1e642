pub mod Trees
pub mod Nodes
pub mod Connectives
pub mod Kinds
pub mod Rounds
pub mod Noticing
pub mod Ends
