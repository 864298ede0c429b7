pub mod Collected
pub mod Filled
