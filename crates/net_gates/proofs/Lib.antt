mod Always
mod Ors
mod Parts
mod Units
