pub mod Escaped
pub mod Safe
pub mod Tags
pub mod Writing
