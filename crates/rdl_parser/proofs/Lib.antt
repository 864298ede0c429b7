mod Alike
mod Items
mod Judged
mod Lists
pub mod OneVerdict
mod Phrases
mod Sources
