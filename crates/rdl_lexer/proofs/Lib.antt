mod Classes
pub mod Fronts
mod InOrder
pub mod NumberFronts
mod Sizes
mod Splits
pub mod Steps
mod Values
