pub mod Faultless
pub mod Fielded
pub mod Lists
pub mod Meant
pub mod Shown
pub mod Standing
