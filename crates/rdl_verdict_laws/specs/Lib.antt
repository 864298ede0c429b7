pub mod Example
pub mod Plain
pub mod PlainInstances
pub mod PlainItems
pub mod PlainPlaces
pub mod PlainRegisters
pub mod PlainSettings
