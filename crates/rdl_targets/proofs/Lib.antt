pub mod Contained
mod Leading
mod Listing
pub mod Numbered
mod Stepping
mod Walking
mod Wants
