pub mod Grammar
pub mod InOrder
pub mod Kinds
pub mod Tokens
pub mod Tree
pub mod Words
