pub mod Constants
pub mod HasRun
pub mod Names
pub mod Nets
mod OneRun
pub mod OneTree
pub mod Printing
pub mod Spelling
pub mod Steps
pub mod Tests
pub mod TreeText
pub mod ValuesFit
