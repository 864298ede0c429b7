pub mod KeptRow
pub mod Lines
pub mod Printed
pub mod Problems
