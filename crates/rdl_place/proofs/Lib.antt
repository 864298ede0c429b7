mod Bounded
mod Filled
mod Fitting
mod Keeping
mod Knowing
mod Listing
mod Mapping
