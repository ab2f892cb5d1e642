pub mod Mentions
pub mod Fresh
pub mod Filtering
pub mod Rounds
pub mod Laws
