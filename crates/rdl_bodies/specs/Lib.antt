pub mod Alike
pub mod Kept
pub mod Opened
pub mod Sited
pub mod Steady
pub mod Texts
