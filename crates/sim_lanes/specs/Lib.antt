pub mod Due
pub mod Narrow
pub mod Runs
pub mod Schedules
