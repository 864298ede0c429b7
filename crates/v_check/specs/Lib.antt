pub mod Drivers
pub mod Found
pub mod Judged
pub mod Loops
pub mod Nets
pub mod Sizes
pub mod Uses
