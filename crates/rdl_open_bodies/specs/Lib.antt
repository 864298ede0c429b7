pub mod Spots
pub mod Starts
