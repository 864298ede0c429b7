pub mod Among
pub mod DataPins
pub mod Interrupts
pub mod ItemPlaces
mod Keeping
mod Knowing
mod Listing
mod Needing
mod Numbered
pub mod Ordering
mod Pairing
pub mod PinUses
mod WantedListing
pub mod Wanting
