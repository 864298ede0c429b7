pub mod Allowed
pub mod Defaults
pub mod Enums
pub mod Layers
pub mod Live
pub mod Meant
pub mod Steady
pub mod Taken
