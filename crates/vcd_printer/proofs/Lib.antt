mod Binary
mod Coding
mod Each
mod Fitting
mod Lines
