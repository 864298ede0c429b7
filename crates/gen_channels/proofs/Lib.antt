mod Accessing
mod Acting
mod Answering
pub mod Growing
mod Nexting
mod Says
