pub mod Bound
pub mod Items
mod Nearing
pub mod Said
mod Turns
