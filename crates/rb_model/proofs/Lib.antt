mod Among
pub mod ApbFront
pub mod Apart
pub mod Eachs
pub mod EdgeWidths
mod EffectWidths
pub mod FieldNames
mod HasPins
pub mod InputPins
pub mod ItemValues
pub mod KindWords
pub mod Made
mod NextWidths
pub mod OwnViews
pub mod PortLists
pub mod PortNames
pub mod Runs
pub mod SameEdge
pub mod ValueWidths
