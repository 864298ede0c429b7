pub mod Body
pub mod Encoded
pub mod Greatest
pub mod Places
pub mod Table
pub mod Told
