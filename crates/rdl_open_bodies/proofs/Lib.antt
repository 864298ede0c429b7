pub mod Cuts
mod Growing
mod Started
pub mod Staying
mod Topmost
mod Uses
