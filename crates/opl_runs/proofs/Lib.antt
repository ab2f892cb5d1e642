mod Aggregates
mod CleanForms
mod CleanItems
mod CleanTerms
pub mod DeclaredNames
mod NameTerms
mod Plain
mod UnrunItems
