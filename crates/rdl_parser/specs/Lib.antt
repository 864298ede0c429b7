pub mod ItemForms
pub mod Judging
pub mod Stopping
pub mod Verdicts
