pub mod Asking
pub mod Counting
pub mod Registers
