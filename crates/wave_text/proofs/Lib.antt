mod Commas
mod Few
mod Rows
mod Waves
