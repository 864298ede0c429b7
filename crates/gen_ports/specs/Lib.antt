pub mod Found
pub mod Laid
pub mod Registers
pub mod Shows
