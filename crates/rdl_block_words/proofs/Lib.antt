mod Entered
mod Masked
mod Risen
mod Showing
mod Standing
pub mod Viewed
