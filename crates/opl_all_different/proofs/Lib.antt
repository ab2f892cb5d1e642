mod Meetings
mod Sums
mod Differing
mod Takings
mod Spreads
mod Settled
mod Fits
mod Readings
mod Made
pub mod Ends
