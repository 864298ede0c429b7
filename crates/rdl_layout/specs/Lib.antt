pub mod Claims
pub mod Extents
pub mod Fields
pub mod Ground
pub mod Parts
pub mod Registers
pub mod Rounding
