mod Accessing
mod Edging
mod Fronting
mod Naming
pub mod OfBus
mod Parts
mod Running
mod WaitSteps
