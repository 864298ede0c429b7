pub mod Merged
pub mod Widths
