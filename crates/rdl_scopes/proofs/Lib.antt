pub mod ByItem
pub mod Closing
mod Defaulting
mod Entered
mod FoundComponents
pub mod Meant
mod Nested
mod Twice
