pub mod SoundSteps
pub mod Orders
pub mod Mapped
pub mod StatementForms
pub mod Performed
pub mod Leaves
pub mod Running
pub mod WholeSearches
