mod After
mod All
mod ApartWords
mod Classes
mod Counted
mod Distinct
pub mod FieldPlaces
mod Fields
mod Gates
pub mod Having
mod Items
mod Made
mod Members
mod Names
mod Numbering
pub mod Numbers
mod Permuted
mod Places
mod Resets
mod ShortPaths
mod SoundFields
mod SoundReferences
pub mod SoundRegisters
mod Viewed
mod Views
mod Within
