pub mod Parts
pub mod Singles
pub mod Taking
pub mod Spreading
pub mod Reading
pub mod DifferentForms
pub mod Laws
