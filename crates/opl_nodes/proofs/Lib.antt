pub mod Knowns
pub mod Measures
pub mod Pushes
pub mod Tests
pub mod Views
