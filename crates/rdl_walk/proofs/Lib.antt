pub mod Asking
pub mod Counting
pub mod Elements
mod Lengths
pub mod Loops
mod Sizes
pub mod Steps
