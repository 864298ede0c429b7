pub mod Barring
mod Beginnings
pub mod Bridge
pub mod Factoring
pub mod Following
pub mod Judgement
pub mod Laying
pub mod Lexing
pub mod OneReading
pub mod OneSpelling
pub mod Returning
pub mod Scanning
mod Separating
pub mod Steps
