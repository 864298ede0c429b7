mod Marking
mod Meant
mod Rooted
mod Turned
pub mod Viewing
