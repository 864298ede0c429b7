pub mod Arrays
pub mod Entries
pub mod Parts
pub mod Paths
pub mod Places
