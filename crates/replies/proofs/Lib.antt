mod Dumps
pub mod Rows
mod Verdicts
mod Waiting
mod Writing
