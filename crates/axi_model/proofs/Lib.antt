mod Edges
pub mod Names
mod Pending
pub mod Running
mod Transferring
