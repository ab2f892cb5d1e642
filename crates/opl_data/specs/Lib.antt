pub mod Answers
pub mod Grammar
pub mod Laws
pub mod Marks
pub mod Nests
