pub mod Below
pub mod Keyed
pub mod Numbers
pub mod Rows
pub mod Single
