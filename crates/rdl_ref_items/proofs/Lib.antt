mod Bodies
mod Closed
pub mod Items
mod Marked
pub mod NamedItems
