pub mod Entries
pub mod Groups
pub mod Known
pub mod Notes
pub mod Seen
