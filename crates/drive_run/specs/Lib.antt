pub mod Modules
pub mod Playing
pub mod Transcript
