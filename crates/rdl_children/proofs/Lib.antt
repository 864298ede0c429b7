pub mod Bounds
mod Flat
pub mod Itemized
mod Listing
pub mod Reached
mod Sharing
mod Using
