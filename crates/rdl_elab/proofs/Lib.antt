mod Appending
mod Childwise
mod Elementwise
mod Environments
mod Listing
mod Measured
mod Nodewise
mod Numbering
mod Primaries
mod Refused
mod Sources
pub mod Staying
pub mod TopUses
pub mod Totals
mod Wholes
