pub mod Firsts
mod Operators
pub mod Phrases
pub mod Words
