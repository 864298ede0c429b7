mod Counts
mod Fitting
mod Found
pub mod Holding
pub mod Keeping
mod LineByLine
mod OneByOne
pub mod Passing
mod Shape
mod Spelled
mod Splitting
