pub mod Addresses
pub mod Bodies
pub mod Elements
pub mod Levels
pub mod Lots
pub mod Measuring
pub mod Modes
pub mod Sized
