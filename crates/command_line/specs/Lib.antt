pub mod Command
pub mod Found
pub mod Source
pub mod Words
