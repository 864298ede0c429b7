pub mod Own
pub mod Tables
