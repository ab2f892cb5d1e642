pub mod Parts
pub mod ShortForms
pub mod LinearForms
pub mod NormalForms
pub mod Ends
pub mod Factors
