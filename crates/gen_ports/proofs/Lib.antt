mod Driving
pub mod Finding
pub mod Laying
pub mod Portals
mod Rowing
mod Showing
