pub mod Accesses
pub mod Built
pub mod Bus
pub mod Fronts
pub mod Pins
pub mod Waits
