pub mod Forms
pub mod Ordered
