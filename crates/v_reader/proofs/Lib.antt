mod Answering
mod Few
mod Nesting
mod Placed
mod Results
mod Scanning
mod Uncapped
pub mod Verdicts
mod Within
