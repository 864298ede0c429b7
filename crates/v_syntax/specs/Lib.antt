pub mod Failing
pub mod Faulty
pub mod Grammar
pub mod Scanned
pub mod Syntax
pub mod Tokens
