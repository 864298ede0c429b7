pub mod Covers
mod FieldUses
pub mod Fielding
mod Found
pub mod Grouped
mod Members
pub mod Read
pub mod Registering
pub mod Using
