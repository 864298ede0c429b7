mod Later
pub mod OneList
mod Parts
mod Same
