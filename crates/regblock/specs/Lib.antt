pub mod Complete
pub mod Drives
pub mod Generated
pub mod Headline
pub mod MachineRuns
pub mod Simulations
pub mod Waves
