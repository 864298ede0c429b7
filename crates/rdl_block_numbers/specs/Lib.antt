pub mod Ends
pub mod Listed
pub mod Named
pub mod Numbers
pub mod Ranks
pub mod Texts
