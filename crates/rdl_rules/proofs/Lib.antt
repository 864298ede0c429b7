mod Targets
mod Waiting
