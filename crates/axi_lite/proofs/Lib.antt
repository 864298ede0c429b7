mod Joining
mod Names
mod Parts
mod Placing
mod Running
mod Tying
