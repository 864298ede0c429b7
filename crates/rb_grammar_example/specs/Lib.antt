pub mod Faults
pub mod Grammar
pub mod Lexemes
pub mod Marks
pub mod Stopping
pub mod Tree
