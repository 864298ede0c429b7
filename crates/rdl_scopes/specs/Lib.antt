pub mod Closed
pub mod Defaulted
pub mod Entries
pub mod Named
pub mod Opened
pub mod Scopes
