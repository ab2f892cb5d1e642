mod Sums
mod Weighing
