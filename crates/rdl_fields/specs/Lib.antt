pub mod Primary
pub mod Touched
pub mod Views
