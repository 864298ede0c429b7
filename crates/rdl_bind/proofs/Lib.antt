mod Among
mod Fielded
mod GivenItems
mod Growing
mod Having
mod ItemNumbers
mod Items
mod Listing
pub mod Places
mod Reading
mod ReferenceLists
mod TargetLists
mod Targeting
mod Targets
