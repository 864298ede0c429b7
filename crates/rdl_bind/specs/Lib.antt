pub mod Given
pub mod Known
pub mod Made
pub mod Numbered
pub mod Places
pub mod Targeted
