mod Asked
mod Causes
mod CompleteRuns
mod Drives
mod Headlines
mod MachineRuns
mod Simulations
mod Waves
