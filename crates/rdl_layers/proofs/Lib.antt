mod Applied
mod Decided
mod Ends
mod Entries
mod First
pub mod Formed
mod Given
mod Least
pub mod Spared
mod Turns
