pub mod InterruptOutputs
pub mod Named
