pub mod Covered
pub mod Found
pub mod Listed
