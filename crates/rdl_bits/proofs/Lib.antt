mod Aligned
mod Bitten
mod Bodily
pub mod Descending
mod Failed
mod Fielded
pub mod Filtered
mod Grouping
mod Listed
mod Lists
mod Registers
