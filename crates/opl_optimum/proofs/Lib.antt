pub mod BestLaws
pub mod GoalLaws
pub mod Membership
pub mod Order
