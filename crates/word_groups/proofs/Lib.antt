pub mod AtEach
mod Distances
mod Groups
mod Pieces
pub mod Shifts
pub mod SlotParts
pub mod Slots
