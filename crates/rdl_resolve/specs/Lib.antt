pub mod Aimed
pub mod Led
pub mod Named
pub mod Outers
pub mod Outward
