pub mod Adding
pub mod Alike
mod Distinct
mod Finding
mod Fixed
pub mod Growing
mod Places
mod Valued
