pub mod Cuts
pub mod Each
mod Escaping
pub mod Looping
mod Safe
pub mod Wrote
