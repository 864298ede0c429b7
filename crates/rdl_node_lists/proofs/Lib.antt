pub mod Adding
mod Sorted
