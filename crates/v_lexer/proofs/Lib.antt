mod Digits
mod Fronts
mod NumberFronts
mod Scans
mod Steps
