pub mod Completed
pub mod Layered
pub mod Texts
