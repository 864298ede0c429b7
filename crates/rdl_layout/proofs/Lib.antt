mod Clashes
mod Fitting
pub mod Least
mod Listing
mod Powers
