mod Aliases
pub mod Alone
pub mod Closed
pub mod Counted
mod Counting
mod Cut
mod Differing
pub mod Distinct
mod Failing
pub mod Faultless
pub mod Fed
mod Fields
pub mod Found
pub mod Free
mod Holding
mod Legal
mod Listed
pub mod Meeting
pub mod Names
mod Nothing
mod OneSlot
mod Ordered
pub mod Placed
mod Primaries
pub mod RegisterNames
mod Same
pub mod Sharing
pub mod Shown
mod Slots
pub mod Spans
mod Spelled
pub mod Standing
pub mod Texts
pub mod Together
pub mod Top
pub mod ViewNumbers
mod Views
mod Widths
pub mod WordNumbers
mod Words
