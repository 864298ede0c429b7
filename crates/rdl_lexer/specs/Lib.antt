pub mod Compact
pub mod Depth
pub mod Faults
pub mod Lexemes
pub mod Numbers
pub mod Reading
