pub mod Enumerations
pub mod Filing
pub mod Groups
pub mod Interrupts
pub mod Page
pub mod Style
