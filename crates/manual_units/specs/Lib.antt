pub mod Likeness
pub mod Marks
pub mod Units
