pub mod Halting
pub mod Listed
pub mod Standing
