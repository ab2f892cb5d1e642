pub mod Answers
pub mod Printing
pub mod Texts
pub mod Laws
