pub mod Levels
pub mod Lists
pub mod Ranking
pub mod Ranks
pub mod Waiting
