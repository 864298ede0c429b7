mod Answering
pub mod Edging
pub mod Making
mod Stacking
pub mod Sweeps
mod Tabling
pub mod Taking
