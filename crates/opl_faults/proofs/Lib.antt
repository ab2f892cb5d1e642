mod Instances
mod Made
mod Unrolled
