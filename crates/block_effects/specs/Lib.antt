pub mod Effects
pub mod Lanes
pub mod Notes
pub mod Quiet
pub mod Says
