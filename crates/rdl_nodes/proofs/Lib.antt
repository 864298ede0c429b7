mod Adding
pub mod Apart
mod Derived
pub mod Keyed
pub mod Lineages
pub mod Members
mod Nodes
mod Numbered
pub mod Order
pub mod Paths
mod Tied
mod Words
