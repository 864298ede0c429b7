mod Fans
mod Marking
pub mod Moving
mod Numbers
pub mod Places
pub mod Running
pub mod Settling
