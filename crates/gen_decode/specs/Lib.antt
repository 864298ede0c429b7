pub mod Among
pub mod Hits
pub mod Runs
