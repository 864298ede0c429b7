pub mod Walking
pub mod Walked
