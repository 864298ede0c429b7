pub mod Beside
pub mod Fields
mod Growing
pub mod Lists
mod Named
pub mod Primaries
pub mod Steps
mod Viewed
