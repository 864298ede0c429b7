pub mod Begun
pub mod Facts
mod Gathered
mod Laying
pub mod Moding
pub mod Offsets
mod Runs
pub mod Settled
pub mod Sizing
mod Placing
mod Sums
pub mod Turns
