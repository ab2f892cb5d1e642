pub mod Numbers
pub mod Members
pub mod Quotients
pub mod Rows
pub mod IntervalLaws
pub mod Sets
pub mod Bits
