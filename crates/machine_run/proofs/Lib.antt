mod Agreeing
pub mod Fitting
mod Lengths
mod Masks
mod Others
mod Readies
mod Resets
mod Resting
mod Runs
pub mod Tables
mod Watching
mod Wholes
