mod Assigning
mod Finishing
mod Naming
mod Quiet
mod Reordered
