mod Loops
mod MarkSteps
mod Marked
mod Puts
pub mod Reaching
pub mod Turns
