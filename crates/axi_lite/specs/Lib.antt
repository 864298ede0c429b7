pub mod Built
pub mod Tables
