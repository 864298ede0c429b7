mod Behind
mod Going
mod Knowing
mod Legal
mod Marking
mod Meeting
mod Taking
