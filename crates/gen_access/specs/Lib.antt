pub mod Effects
pub mod Tables
pub mod Touches
pub mod Words
