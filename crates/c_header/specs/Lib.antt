pub mod Enumerators
pub mod Header
pub mod Laws
pub mod Macros
pub mod Names
pub mod Repeats
