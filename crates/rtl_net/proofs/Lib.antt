mod Added
mod Calls
pub mod Distinct
mod Exprs
pub mod HasRun
pub mod Making
mod NameLists
pub mod Nets
mod NodeLists
mod Numbers
pub mod OneRun
pub mod Others
pub mod Pins
pub mod Places
mod PortLists
mod Seating
mod Tying
pub mod Values
pub mod ValuesFit
pub mod Widths
mod WireLists
