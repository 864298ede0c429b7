mod Behind
mod Counted
mod Finding
mod GivenSettings
mod Judging
mod Layered
mod Looked
mod NamedAlike
mod Numbers
mod Positioned
pub mod Reading
mod Related
mod Spent
mod SteadyEntries
mod SteadySets
pub mod Steps
mod Thinning
mod Turns
mod Unassigned
