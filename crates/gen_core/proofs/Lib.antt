mod Building
mod Driving
mod Joining
mod Naming
mod Outlets
mod Running
mod Showing
