pub mod ArrayNames
pub mod DraftPlaces
pub mod Forms
pub mod Live
pub mod Loops
pub mod Next
pub mod Steps
pub mod ValueParts
