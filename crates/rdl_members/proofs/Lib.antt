mod Covering
mod Firsts
mod Founding
mod Marking
pub mod Sharing
pub mod Standing
