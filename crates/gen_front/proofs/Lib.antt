pub mod Agreeing
pub mod Elements
pub mod Filling
pub mod Names
pub mod Netlists
pub mod Ports
pub mod Runs
pub mod Titles
