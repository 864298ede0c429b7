mod Capping
mod Driving
mod Exprs
mod Faults
mod Finding
pub mod Forming
mod Looping
mod Parts
mod Sizing
mod Spelled
mod Stages
mod Tables
