mod Listing
mod Narrow
mod Tabled
mod Telling
