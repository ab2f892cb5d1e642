pub mod Sums
mod Trims
mod AtMost
mod Alternating
mod Differs
pub mod Normal
pub mod Carrying
mod Turned
mod Leasts
mod Widths
