pub mod Activities
