mod Cuts
pub mod InOrder
mod Joining
mod Keyed
mod Meant
mod Naming
mod Owning
mod Parents
mod Placing
mod Ranking
mod Viewing
