pub mod Bases
pub mod Fields
pub mod Items
pub mod Lines
pub mod Worth
