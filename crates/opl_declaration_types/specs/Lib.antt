pub mod DeclarationSteps
pub mod Declarations
