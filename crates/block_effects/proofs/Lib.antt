mod Absent
mod Bits
mod Counting
mod Holding
mod Hardware
mod Lanes
mod Resets
mod Sayings
