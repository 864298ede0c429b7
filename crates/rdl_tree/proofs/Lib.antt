mod Places
pub mod Spellings
pub mod Tying
